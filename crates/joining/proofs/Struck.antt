-- A machine off its seat: the pool stands, the rows keep their keys, and the committee has what room it then has.
use Prim.Native.Nat.{ℕ, zero, suc, ◌+◌, ◌*◌, ◌≤◌}
use mathlib.Core.Path.{◌≡◌, refl, ap, sym, ◌∙◌}
use mathlib.Core.List.{List, [], ◌∷◌}
use mathlib.Core.Option.{Option, none, some, map}
use mathlib.Core.Bool.{Bool, true, false, not, ◌&&◌}
use native.Mathlib.Omega.{arith}
use native.Mathlib.Nat.{zero-add}
use native.Mathlib.Numerals.{add-one}
use borrow.Author.Tests.{eq-eqb, ne_eqb}
use lib.Dec.{eqb, leb, ltb}
use lib.ListN.{length, get_or}
use Rattle.types.specs.Numbers.{Shard, Id}
use Rattle.types.specs.Places.{is_pooled, short}
use Rattle.types.specs.Shards.{parent_of}
use Rattle.rules.specs.Lists.{◌and◌, ◌or◌, every, any, keep, has, strike}
use Rattle.rules.specs.Table.{Entry, Table, is_some, at, stands, holds_at, each, update, keys_where}
use Rattle.rules.specs.Board.{merge, Board, most_committees, most_members}
use Rattle.rules.specs.WellFormed.{well_formed}
use Rattle.rules.specs.Moves.{pool_of, says, members_of, place, quit, take_off, may_join, give_up_seat}
use Rattle.rules.specs.Places.{leave_seat}
use Rattle.rules.proofs.Counts.{Alike, same, apart, alike, hit, hit_same, hit_apart, occ, occ_strike}
use Rattle.rules.proofs.Tables.{From, at_below}
use Rattle.rules.proofs.Tests.{le_of, of_le, lt_of_no, has_occ}
use Rattle.rules.proofs.KeptTables.{length_each, at_update}
use Rattle.rules.proofs.KeptBoard.{good_of_lem}
use Rattle.tables.proofs.Bools.{and_end}
use Rattle.tables.proofs.Keys.{update_none}
use Rattle.board.specs.Held.{no_machine}
use Rattle.moves.specs.declared.Exit.TheVariants.{Short}
use Rattle.moves.proofs.Kept.{taken_well, given_up_well}

-- ---- tables

module _ {A : Type 0} where
  -- a value that no test finds, before and after, is in no list of keys
  keys_hidden : (f : A → Bool) (g : A → A) → ((v : A) → f (g v) ≡ false) → (x n : ℕ) (t : Table A) → From n t → holds_at x f t ≡ false → keys_where f (update x g t) ≡ keys_where f t
  unfolding From update each keys_where holds_at at
  keys_hidden f g z x n [] r h = refl
  keys_hidden f g z x n (e ∷ t) r h = go (alike x e.key) (keys_hidden f g z x (suc e.key) t r.1)
    where
      go : Alike x e.key → (holds_at x f t ≡ false → keys_where f (update x g t) ≡ keys_where f t) → keys_where f (update x g (e ∷ t)) ≡ keys_where f (e ∷ t)
      go (same p q) ih =
          let hidden : f e.val ≡ false = rw (holds_at, q) at h in
          rw (eq-eqb e.key x (sym p), z e.val, hidden) (ap (keys_where f) (update_none x g t (at_below x (suc e.key) t r.1 (omega arith))))
      go (apart p q) ih = rw (ne_eqb e.key x (λ o. p (sym o)), ih (rw (holds_at, q) at h))

  pub key_each : (f : ℕ → A → A) (t : Table A) (i : ℕ) (d : Entry A) → (get_or (each f t) i d).key ≡ (get_or t i d).key
  unfolding each
  key_each f [] i d = refl
  key_each f (e ∷ t) zero d = refl
  key_each f (e ∷ t) (suc i) d = key_each f t i d

-- ---- lists

length_struck : (x : ℕ) (l : List ℕ) → length (strike x l) + occ x l ≡ length l
unfolding strike keep occ
length_struck x [] = refl
length_struck x (y ∷ l) = go (alike y x) (length_struck x l)
  where
    go : Alike y x → length (strike x l) + occ x l ≡ length l → length (strike x (y ∷ l)) + occ x (y ∷ l) ≡ suc (length l)
    go (same p q) ih = rw (q, p, hit_same) (omega arith)
    go (apart p q) ih = rw (q, hit_apart x y (λ e. p (sym e)), zero-add) (omega arith)

-- another is there as before, and the one struck is not
has_struck : (x y : ℕ) (l : List ℕ) → has y (strike x l) ≡ (has y l && not (eqb y x))
has_struck x y l = go (alike y x) (occ_strike x y l)
  where
    no : (c : Bool) → false ≡ (c && false)
    no true = refl
    no false = refl

    yes : (c : Bool) → c ≡ (c && true)
    yes true = refl
    yes false = refl

    go : Alike y x → occ y (strike x l) + hit y x * occ x l ≡ occ y l → has y (strike x l) ≡ (has y l && not (eqb y x))
    go (same p q) o =
        let z : occ y (strike x l) ≡ 0 = rw p (let u = (rw (p, hit_same) at o) in omega arith) in
        has_occ y (strike x l) ∙ ap (leb 1) z ∙ rw q (no (has y l))
    go (apart p q) o =
        let z : occ y (strike x l) ≡ occ y l = let u = (rw (hit_apart y x p) at o) in omega arith in
        has_occ y (strike x l) ∙ ap (leb 1) z ∙ sym (has_occ y l) ∙ rw q (yes (has y l))

-- ---- the committee without the machine

module _ (s : Shard) (x y : Id) (b : Board) where
  members_struck : members_of s (quit s x b) ≡ strike x (members_of s b)
  unfolding members_of quit strike keep
  members_struck = rw (members_of, at_update s (strike x) b.committees) (go (at s b.committees))
    where
      go : (o : Option (List Id)) → elim (map (strike x) o) [ none ↦ [] | some members ↦ members ] ≡ strike x (elim o [ none ↦ [] | some members ↦ members ])
      go none = refl
      go (some l) = refl

  stands_struck : stands s (quit s x b).committees ≡ stands s b.committees
  unfolding quit stands is_some
  stands_struck = rw (at_update s (strike x) b.committees) (go (at s b.committees))
    where
      go : (o : Option (List Id)) → is_some (map (strike x) o) ≡ is_some o
      go none = refl
      go (some l) = refl

  length_quit : length (quit s x b).committees ≡ length b.committees
  unfolding quit update
  length_quit = length_each _ b.committees

  asked : may_join s (y ∷ []) (leave_seat s x b)
      ≡ ((stands s b.committees or ltb (length b.committees) most_committees) and (not (has y (strike x (members_of s b))) and true) and leb (length (strike x (members_of s b)) + 1) most_members)
  unfolding leave_seat take_off place give_up_seat may_join members_of every quit
  asked = rw (sym members_struck, sym stands_struck, sym length_quit)

  module _ (l : List Id) (m : members_of s b ≡ l) where
    module _ (q : stands s b.committees ≡ true) where
      pub replace_member : (has y l && not (eqb y x)) ≡ true → false ≡ may_join s (y ∷ []) (leave_seat s x b)
      unfolding ◌and◌ ◌or◌
      replace_member h = sym (asked ∙ rw (q, m, has_struck x y l, h))

      module _ (h : (has y l && not (eqb y x)) ≡ false) where
        rest : leb (length (strike x l) + 1) most_members ≡ may_join s (y ∷ []) (leave_seat s x b)
        unfolding ◌and◌ ◌or◌
        rest = sym (asked ∙ rw (q, m, has_struck x y l, h))

        -- who leaves makes room
        pub replace_own : has x l ≡ true → length l ≤ most_members → true ≡ may_join s (y ∷ []) (leave_seat s x b)
        replace_own o f =
            sym (of_le (length (strike x l) + 1) most_members (omega (arith, length_struck x l, le_of 1 (occ x l) (sym (has_occ x l) ∙ o)))) ∙ rest

        pub replace_room : has x l ≡ false → ltb (length l) most_members ≡ may_join s (y ∷ []) (leave_seat s x b)
        replace_room o =
            let z : length (strike x l) ≡ length l = omega (arith, length_struck x l, lt_of_no 1 (occ x l) (sym (has_occ x l) ∙ o)) in
            rw (add-one, z) at rest

    pub replace_opens : l ≡ [] → stands s b.committees ≡ false → ltb (length b.committees) most_committees ≡ may_join s (y ∷ []) (leave_seat s x b)
    unfolding strike keep has any ◌and◌ ◌or◌
    replace_opens e q = sym (asked ∙ rw (q, m ∙ e) (and_end (ltb (length b.committees) most_committees)))

-- ---- the machines without it

module _ (s : Shard) (x : Id) (b : Board) where
  pub pool_stands : well_formed b ≡ true → says is_pooled b x ≡ false → pool_of (leave_seat s x b) ≡ pool_of b
  unfolding pool_of leave_seat take_off place quit give_up_seat
  pool_stands ok h = keys_hidden is_pooled short (λ v. refl) x 0 b.machines (good_of_lem b ok).machines.rising h

  pub left_rows : length (leave_seat s x b).machines ≡ length b.machines
  unfolding leave_seat take_off place quit give_up_seat update
  left_rows = length_each _ b.machines

  pub left_key : (i : ℕ) → (get_or (leave_seat s x b).machines i no_machine).key ≡ (get_or b.machines i no_machine).key
  unfolding leave_seat take_off place quit give_up_seat update
  left_key i = key_each _ b.machines i no_machine

  pub left_well : well_formed b ≡ true → well_formed (leave_seat s x b) ≡ true
  unfolding leave_seat
  left_well ok = given_up_well _ (taken_well b ok x Short s) x merge (parent_of s)
