-- How many rows the tables of a cut have.
use Prim.Native.Nat.{ℕ, suc, ◌+◌, ◌≤◌, ◌<◌}
use mathlib.Core.Path.{◌≡◌, refl, ap, sym, ◌∙◌}
use mathlib.Core.Logic.{◌≢◌}
use mathlib.Core.List.{[]}
use mathlib.Core.Option.{Option, none, some}
use mathlib.Core.Bool.{Bool, true, false, not}
use borrow.Author.Tests.{lt-leb}
use native.Mathlib.Omega.{arith}
use lib.Dec.{leb}
use lib.ListN.{length, length-append, length-drop}
use lib.Seq.{length-take-le}
use Rattle.types.specs.Numbers.{Shard, Height}
use Rattle.types.specs.Shards.{left_of, right_of}
use Rattle.rules.specs.Lists.{◌and◌, bit_of}
use Rattle.rules.specs.Table.{Entry, entry, Table, is_some, at, stands, put, remove}
use Rattle.rules.specs.Board.{Kind, split, merge, Board, most_committees, most_bounds, epoch_of}
use Rattle.rules.specs.Moves.{for_all, new_boundary}
use Rattle.rules.specs.Cut.{recast, fits}
use Rattle.rules.proofs.Counts.{eqb_apart}
use Rattle.rules.proofs.Tables.{From, at_put, at_remove, From-put, From-remove}
use Rattle.rules.proofs.Tests.{of_le, from_rising}
use Rattle.rules.proofs.KeptTables.{length_replace}
use Rattle.rules.proofs.KeptBoard.{Good}
use Rattle.tables.specs.Rows.{Rising, key_of, place_of}
use Rattle.tables.proofs.Keys.{first_most, at_is, remove_none, remove_is_remove_at, put_is_insert_at, place_is}
use Rattle.board.proofs.Fitting.{insert_length}
use Rattle.recasting.specs.Recast.{lack, family_count}

-- ---- one row

pub lack_told : {A : Type 0} (k : ℕ) (t : Table A) (c s : Bool) → s ≡ not c → s ≡ stands k t → bit_of c ≡ lack k t
lack_told k t true s e f = rw (sym f ∙ e)
lack_told k t false s e f = rw (sym f ∙ e)

pub bit_most : (c : Bool) → bit_of c ≤ 1
bit_most true = omega arith
bit_most false = omega arith

pub lack_none : {A : Type 0} (k : ℕ) (t : Table A) → at k t ≡ none → lack k t ≡ 1
unfolding stands is_some
lack_none k t q = rw q

module _ {A : Type 0} (k : ℕ) (t : Table A) (f : From 0 t) where
  pub put_length : (v : A) → length (put k v t) ≡ length t + lack k t
  unfolding stands is_some
  put_length v = go (at k t) refl
    where
      go : (o : Option A) → at k t ≡ o → length (put k v t) ≡ length t + bit_of (not (is_some o))
      go none q = ap length (put_is_insert_at t (from_rising 0 t f) k v q) ∙ insert_length t _ _ (first_most _ t) ∙ omega arith
      go (some w) q = length_replace k 0 v w t f q ∙ omega arith

  remove_length : (d : A) → suc (length (remove k t)) ≡ length t + lack k t
  unfolding stands is_some
  remove_length d = go (at k t) refl
    where
      go : (o : Option A) → at k t ≡ o → suc (length (remove k t)) ≡ length t + bit_of (not (is_some o))
      go none q = rw (remove_none k t q) (omega arith)
      go (some w) q =
          let r = from_rising 0 t f in
          let i = place_of key_of k t in
          let p = place_is t r k w (entry 0 d) q in
          ap (λ l. suc (length l)) (remove_is_remove_at t r k i (entry 0 d) p.0 (rw p.1))
          ∙ simp length-append (omega (arith, p.0, length-take-le i t (omega (arith, p.0)), length-drop (suc i) t))

module _ {A : Type 0} (k j : ℕ) (n : k ≢ j) (t : Table A) where
  lack_put : (v : A) → lack k (put j v t) ≡ lack k t
  unfolding stands
  lack_put v = rw (at_put k j v t, eqb_apart k j n)

  lack_remove : lack k (remove j t) ≡ lack k t
  unfolding stands
  lack_remove = rw (at_remove k j t, eqb_apart k j n)

-- ---- a family

module _ (t : Shard) (pos : 1 ≤ t) (height : Height) (b : Board) (h : Good b) where
  split_committees : length (recast split t height b).committees + 1 ≡ family_count t b
  unfolding recast for_all
  split_committees =
      let cs = b.committees in
      let gone = remove t cs in
      let f = From-remove t 0 cs h.committees.rising in
      let one = put (left_of t) [] gone in
      let g = From-put (left_of t) [] 0 gone (omega arith) f in
      omega
      (arith, remove_length t cs h.committees.rising [], put_length (left_of t) gone f [], put_length (right_of t) one g [], lack_remove (left_of t) t (omega arith) cs, lack_put (right_of t) (left_of t) (omega arith) gone [], lack_remove (right_of t) t (omega arith) cs)

  split_bounds : length (recast split t height b).bounds ≡ length b.bounds + lack (left_of t) b.bounds + lack (right_of t) b.bounds
  unfolding recast for_all
  split_bounds =
      let vs = b.bounds in
      let v = new_boundary height (epoch_of b) in
      let f = From-put (left_of t) v 0 vs (omega arith) h.bounds.rising in
      omega
      (arith, put_length (left_of t) vs h.bounds.rising v, put_length (right_of t) (put (left_of t) v vs) f v, lack_put (right_of t) (left_of t) (omega arith) vs v)

  merge_committees : length (recast merge t height b).committees + 2 ≡ family_count t b
  unfolding recast for_all
  merge_committees =
      let cs = b.committees in
      let f = From-remove (left_of t) 0 cs h.committees.rising in
      let one = remove (left_of t) cs in
      let g = From-remove (right_of t) 0 one f in
      omega
      (arith, remove_length (left_of t) cs h.committees.rising [], remove_length (right_of t) one f [], put_length t (remove (right_of t) one) g [], lack_remove (right_of t) (left_of t) (omega arith) cs, lack_remove t (right_of t) (omega arith) one, lack_remove t (left_of t) (omega arith) cs)

  merge_bounds : length (recast merge t height b).bounds ≡ length b.bounds + lack t b.bounds
  unfolding recast for_all
  merge_bounds = put_length t b.bounds h.bounds.rising (new_boundary height (epoch_of b))

  -- as the code counts: committees, then boundaries
  module _ (k : Kind) (old : ℕ) (e : length (recast k t height b).committees + old ≡ family_count t b) {n : ℕ} (en : n ≡ family_count t b) where
    committees_past : most_committees + old < n → false ≡ fits (recast k t height b)
    unfolding fits ◌and◌
    committees_past l = rw (lt-leb (length (recast k t height b).committees) most_committees (omega arith))

    committees_within : n ≤ most_committees + old → fits (recast k t height b) ≡ leb (length (recast k t height b).bounds) most_bounds
    unfolding fits ◌and◌
    committees_within l = rw (of_le (length (recast k t height b).committees) most_committees (omega arith))

  module _ {n : ℕ} (en : n ≡ family_count t b) where
    pub split_past : most_committees + 1 < n → false ≡ fits (recast split t height b)
    split_past = committees_past split 1 split_committees en

    pub split_room : {m x y : ℕ} → n ≤ most_committees + 1 → m ≡ length b.bounds → x ≡ lack (left_of t) b.bounds → y ≡ lack (right_of t) b.bounds
        → leb (m + x + y) most_bounds ≡ fits (recast split t height b)
    split_room l em ex ey = rw (em, ex, ey) (ap (λ (z : ℕ). leb z most_bounds) (sym split_bounds) ∙ sym (committees_within split 1 split_committees en l))

    pub merge_past : most_committees + 2 < n → false ≡ fits (recast merge t height b)
    merge_past = committees_past merge 2 merge_committees en

    pub merge_room : {m x : ℕ} → n ≤ most_committees + 2 → m ≡ length b.bounds → x ≡ lack t b.bounds → leb (m + x) most_bounds ≡ fits (recast merge t height b)
    merge_room l em ex = rw (em, ex) (ap (λ (z : ℕ). leb z most_bounds) (sym merge_bounds) ∙ sym (committees_within merge 2 merge_committees en l))
