-- An old shard's committee for a new one's: the table's row for it, and the order in which the old ones go.
use Prim.Native.Nat.{ℕ, zero, suc, ◌≤◌, ◌<◌}
use mathlib.Core.Path.{◌≡◌, refl, ap, sym, ◌∙◌}
use mathlib.Core.List.{List, [], ◌∷◌}
use mathlib.Core.Option.{Option, none, some}
use mathlib.Core.Bool.{Bool, true, false, true≢false}
use native.Mathlib.Omega.{arith}
use borrow.Author.Tests.{le-leb}
use lib.Dec.{eqb}
use lib.ListN.{length, get_or}
use Rattle.types.specs.Numbers.{Shard, Id, Height}
use Rattle.types.specs.Shards.{left_of, right_of}
use Rattle.rules.specs.Table.{Entry, entry, Table, is_some, at, stands, put, remove}
use Rattle.rules.specs.Board.{merge, Board, most_committees, on_committees}
use Rattle.rules.specs.WellFormed.{well_formed}
use Rattle.rules.specs.Cut.{recast, fits}
use Rattle.rules.proofs.Counts.{eqb_apart}
use Rattle.rules.proofs.Tables.{From, at_remove, From-remove}
use Rattle.rules.proofs.Tests.{from_rising}
use Rattle.rules.proofs.KeptBoard.{Good, good_of_lem}
use Rattle.tables.specs.Rows.{insert_at, remove_at, first_where, place_of, key_of}
use Rattle.tables.proofs.Keys.{remove_none, remove_is_remove_at, put_is_insert_at, place_under}
use Rattle.board.specs.Held.{Holds, no_committee}
use Rattle.board.proofs.Fitting.{held_as}
use Rattle.recasting.proofs.Families.{good_end, committees_fit_lem, both_ended, parent_fits}

module _ {A : Type 0} where
  pub remove_swap : (j k : ℕ) (t : Table A) → remove j (remove k t) ≡ remove k (remove j t)
  unfolding remove
  remove_swap j k [] = refl
  remove_swap j k (e ∷ t) = go (eqb j e.key) refl (eqb k e.key) refl (remove_swap j k t)
    where
      go : (c : Bool) → eqb j e.key ≡ c → (d : Bool) → eqb k e.key ≡ d → remove j (remove k t) ≡ remove k (remove j t)
          → remove j (remove k (e ∷ t)) ≡ remove k (remove j (e ∷ t))
      go true u true v h = rw (u, v) h
      go true u false v h = rw (v, u) h
      go false u true v h = rw (u, v) h
      go false u false v h = rw (u, v, u) (ap (λ (l : Table A). e ∷ l) h)

  -- the place of a smaller key does not change where a row goes
  place_out : (k n : ℕ) (t : Table A) (j : ℕ) (d : Entry A) → From n t → j < length t → k < (get_or t j d).key → place_of key_of k (remove_at t j) ≡ place_of key_of k t
  unfolding From first_where
  place_out k n [] j d r h l = absurd (omega arith)
  place_out k n (x ∷ []) zero d r h l = rw (le-leb k x.key (omega arith))
  place_out k n (x ∷ y ∷ t) zero d r h l = rw (le-leb k x.key (omega arith), le-leb k y.key (omega (arith, r.1.0)))
  place_out k n (x ∷ t) (suc j) d r h l = rw (place_out k (suc x.key) t j d r.1 (omega arith) l)

  pub put_for : (t : Table A) → From 0 t → (old new j : ℕ) (v : A) (d : Entry A) → j < length t → (get_or t j d).key ≡ old → new < old → at new t ≡ none
      → put new v (remove old t) ≡ insert_at (remove_at t j) (place_of key_of new t) (entry new v)
  put_for t r old new j v d h e l q =
      put_is_insert_at (remove old t) (from_rising 0 _ (From-remove old 0 t r)) new v (at_remove new old t ∙ rw (eqb_apart new old (omega arith)) q)
      ∙ ap (λ (u : Table A). insert_at u (place_of key_of new u) (entry new v)) (remove_is_remove_at t (from_rising 0 t r) old j d h e)
      ∙ ap (λ (p : ℕ). insert_at (remove_at t j) p (entry new v)) (place_out new 0 t j d r h (omega arith))

  -- what does not stand
  nowhere : (k : ℕ) (t : Table A) → stands k t ≡ false → at k t ≡ none
  unfolding stands is_some
  nowhere k t e = go (at k t) e
    where
      go : (o : Option A) → is_some o ≡ false → o ≡ none
      go none q = refl
      go (some v) q = absurd (true≢false q)

-- ---- at the row that was found

module _ (b : Board) (ok : well_formed b ≡ true) (old new : Shard) (l : new < old) where
  abbrev cs : Table (List Id)
  cs = b.committees

  pub none_replaced : (after : List ℕ) → at old cs ≡ none → Holds after (on_committees (put new []) b) → Holds after (on_committees (λ t. put new [] (remove old t)) b)
  none_replaced after n h = held_as after _ _ (ap (λ (t : Table (List Id)). on_committees (λ _. put new [] t) b) (sym (remove_none old cs n))) h

  module _ (j : ℕ) (m : j < length cs) (o : (get_or cs j no_committee).key ≡ old) (k : ℕ) (e : k ≡ place_of key_of new cs) where
    pub place_within : k ≤ j
    place_within = rw e (place_under key_of cs j no_committee new m (omega (arith, o)))

    pub one_replaced : (after : List ℕ) → stands new cs ≡ false → Holds after (on_committees (λ t. insert_at (remove_at t j) k (entry new [])) b) → Holds after (on_committees (λ t. put new [] (remove old t)) b)
    one_replaced after q h =
        held_as after _ _
        (ap (λ (t : Table (List Id)). on_committees (λ _. t) b) (rw e (sym (put_for cs (good_of_lem b ok).committees.rising old new j [] no_committee m o l (nowhere new cs q))))) h

-- ---- a merge's committees: the right child's goes first

module _ (t : Shard) (height : Height) (b : Board) (g : Good b) (f : fits (recast merge t height b) ≡ true) where
  pub both_good : Good (both_ended t height b f)
  both_good = good_end (right_of t) (good_end (left_of t) g)

  pub merged_fit : length (put t [] (remove (left_of t) (remove (right_of t) b.committees))) ≤ most_committees
  merged_fit = rw (remove_swap (left_of t) (right_of t) b.committees) (committees_fit_lem both_good t height (parent_fits t height b f))

  pub in_order : (ws : List ℕ) → Holds ws (on_committees (λ u. put t [] (remove (left_of t) (remove (right_of t) u))) b) → Holds ws (on_committees (λ u. put t [] (remove (right_of t) (remove (left_of t) u))) b)
  in_order ws h = held_as ws _ _ (ap (λ (u : Table (List Id)). on_committees (λ _. put t [] u) b) (remove_swap (left_of t) (right_of t) b.committees)) h
