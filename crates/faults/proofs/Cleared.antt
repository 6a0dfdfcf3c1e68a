-- Each clause of the seat check holds exactly where its finders find nothing.
use Prim.Native.Nat.{ℕ, zero, suc, ◌+◌, ◌≤◌, ◌<◌}
use mathlib.Core.Path.{◌≡◌, refl, ap, sym, ◌∙◌}
use mathlib.Core.List.{List, [], ◌∷◌}
use mathlib.Core.Bool.{Bool, true, false, cond, not}
use native.Mathlib.Omega.{arith}
use native.Mathlib.Numerals.{add-one}
use lib.ListN.{length, get_or, drop, length-drop}
use Rattle.types.specs.Places.{observes}
use Rattle.rules.specs.Lists.{◌and◌, ◌or◌, every}
use Rattle.rules.specs.Table.{Entry, Table, keys_where, keys_of}
use Rattle.rules.specs.Board.{Rotation, split, Reshape, Board}
use Rattle.rules.specs.WellFormed.{well_formed}
use Rattle.rules.specs.Moves.{says, is_on, is_kind, overlaps}
use Rattle.rules.specs.Places.{is_scheduled_split}
use Rattle.rules.specs.SeatCheck.{members_are_there, machines_are_listed, cohorts_watch, rotations_fit, is_in_one_half, scheduled_fit, families_apart, reshapes_stand, seat_check}
use Rattle.rules.proofs.Tests.{and_parts, and_joins, all_parts, all_joins, every_parts}
use Rattle.tables.specs.Rows.{first_where}
use Rattle.board.specs.Held.{no_committee, no_rotation, no_reshape}
use Rattle.occupancy.specs.Rows.{committee_is_there, cohort_watches}
use Rattle.parties.specs.Pairs.{apart, fits_before}
use Rattle.parties.proofs.Pairs.{pairwise, pairs_are}
use Rattle.carved.specs.Rows.{split_fits}
use Rattle.carved.proofs.Carved.{none_is}
use Rattle.seats.specs.Rows.{is_family_apart, reshape_stands}
use Rattle.faults.specs.Firsts.{fails_from, is_listed_row, seat_watches, parties_sit, leaves_alone, is_halved, sharing_rotation, rotation_there, unhalved_machine}
use Rattle.faults.specs.Clean.{Exactly, NoStray, NoneUnlisted, NoneAbsent, NoMisfit, NoneUncarved, NoOverlap, NoneUnfounded, NoFault}

-- ---- no row fails

module _ {A : Type 0} (f : A → Bool) where
  none_found : (l : List A) → every f l ≡ true → first_where (λ x. not (f x)) l ≡ length l
  unfolding first_where
  none_found [] h = refl
  none_found (x ∷ l) h = let p = every_parts f x l h in rw p.0 (ap suc (none_found l p.1))

  none_fails : (l : List A) → first_where (λ x. not (f x)) l ≡ length l → every f l ≡ true
  unfolding first_where every ◌and◌
  none_fails [] h = refl
  none_fails (x ∷ l) h = go (f x) h (none_fails l)
    where
      go : (c : Bool) → cond (not c) 0 (suc (first_where (λ y. not (f y)) l)) ≡ suc (length l) → (first_where (λ y. not (f y)) l ≡ length l → every f l ≡ true) → (c and every f l) ≡ true
      go true e ih = ih (omega arith)
      go false e ih = absurd (omega arith)

  cleared_from : (l : List A) (i : ℕ) → i ≤ length l → Exactly (every f (drop i l)) (fails_from f l i ≡ length l)
  cleared_from l i h = record { clean = λ e. omega (arith, none_found (drop i l) e, length-drop i l); holds = λ e. none_fails (drop i l) (omega (arith, length-drop i l)) }

  cleared : (l : List A) → Exactly (every f l) (fails_from f l 0 ≡ length l)
  cleared l = cleared_from l 0 (omega arith)

-- ---- of two clauses, and of every row

told : {c : Bool} → Exactly c (c ≡ true)
told = record { clean = λ h. h; holds = λ h. h }

both : {c d : Bool} {P Q : Type 0} → Exactly c P → Exactly d Q → Exactly (c and d) (P × Q)
both p q = record { clean = λ h. let t = and_parts _ _ h in (p.clean t.0, q.clean t.1); holds = λ h. and_joins _ _ (p.holds h.0) (q.holds h.1) }

-- F goes through a list, and g is its test of a row, which may look at the rows after it
module _ {A : Type 0} (F : List A → Bool) (g : A → List A → Bool) (nil : F [] ≡ true) (cons : (x : A) (t : List A) → F (x ∷ t) ≡ (g x t and F t)) (d : A) where
  row_passes : (l : List A) (i : ℕ) → F l ≡ true → i < length l → g (get_or l i d) (drop (suc i) l) ≡ true
  row_passes [] i h m = absurd (omega arith)
  row_passes (x ∷ l) zero h m = (and_parts _ _ (sym (cons x l) ∙ h)).0
  row_passes (x ∷ l) (suc i) h m = row_passes l i (and_parts _ _ (sym (cons x l) ∙ h)).1 (omega arith)

  rows_pass : (l : List A) → ((i : ℕ) → i < length l → g (get_or l i d) (drop (suc i) l) ≡ true) → F l ≡ true
  rows_pass [] h = nil
  rows_pass (x ∷ l) h = cons x l ∙ and_joins _ _ (h 0 (omega arith)) (rows_pass l (λ i m. h (suc i) (omega arith)))

  each_row : (P : ℕ → Type 0) (l : List A) → ((i : ℕ) → i < length l → Exactly (g (get_or l i d) (drop (i + 1) l)) (P i)) → Exactly (F l) ((i : ℕ) → i < length l → P i)
  each_row P l e = record {
    clean = λ h i m. (e i m).clean (rw (add-one i) (row_passes l i h m));
    holds = λ h. rows_pass l (λ i m. rw (← add-one i) ((e i m).holds (h i m)));
  }

each : {A : Type 0} (f : A → Bool) (d : A) (P : ℕ → Type 0) (l : List A) → ((i : ℕ) → Exactly (f (get_or l i d)) (P i)) → Exactly (every f l) ((i : ℕ) → i < length l → P i)
unfolding every
each f d P l e = each_row (every f) (λ x t. f x) refl (λ x t. refl) d P l (λ i m. e i)

-- ---- tests of rows, drawn into their lists

keys_pass : {A : Type 0} (f : ℕ → Bool) (t : Table A) → every f (keys_of t) ≡ every (λ e. f e.key) t
unfolding every keys_of keys_where
keys_pass f [] = refl
keys_pass f (e ∷ t) = ap (λ (c : Bool). f e.key and c) (keys_pass f t)

unless_every : {A : Type 0} (c : Bool) (f : A → Bool) (l : List A) → (not c or every f l) ≡ every (λ x. not c or f x) l
unfolding every ◌and◌ ◌or◌
unless_every true f l = refl
unless_every false f [] = refl
unless_every false f (x ∷ l) = unless_every false f l

unless_both : (c p q : Bool) → (not c or (p and q)) ≡ ((not c or p) and (not c or q))
unfolding ◌and◌ ◌or◌
unless_both true p q = refl
unless_both false p q = refl

swap_last : (c p q : Bool) → (c and (p and q)) ≡ ((c and q) and p)
unfolding ◌and◌
swap_last true true true = refl
swap_last true true false = refl
swap_last true false true = refl
swap_last true false false = refl
swap_last false p q = refl

module _ (b : Board) where
  cohort_rows : (e : Entry Reshape) → cohort_watches b e ≡ every (seat_watches b e) e.val.seats
  cohort_rows e = rw (keys_pass (says (observes e.key) b) e.val.seats) (unless_every (is_kind split e.val) _ e.val.seats)

  split_rows : (e : Entry Reshape) → split_fits b e ≡ (every (leaves_alone e) b.rotations and every (is_halved e) b.machines)
  split_rows e =
      rw (none_is (is_on e.key) b.rotations, ← unless_every (is_scheduled_split e.val) (λ r. not (is_on e.key r)) b.rotations, ← unless_every (is_scheduled_split e.val) (is_in_one_half e.key e.val) b.machines)
      (unless_both (is_scheduled_split e.val) _ _)

  fits_parts : (r : Rotation) (l : List Rotation) → fits_before b r l ≡ (parties_sit b r and apart r l)
  fits_parts r l = swap_last _ (apart r l) _

  family_rows : (e : Entry Reshape) (l : Table Reshape) → is_family_apart e l ≡ every (λ u. not (overlaps e.key u.key)) l
  family_rows e l = none_is (overlaps e.key) (keys_of l) ∙ keys_pass (λ u. not (overlaps e.key u)) l

-- ---- the clauses

module _ (b : Board) where
  pub members_clear : Exactly (members_are_there b) (NoStray b)
  unfolding members_are_there
  members_clear = each (committee_is_there b) no_committee _ b.committees (λ j. cleared _ _)

  pub machines_clear : Exactly (machines_are_listed b) (NoneUnlisted b)
  unfolding machines_are_listed
  machines_clear = cleared (is_listed_row b) b.machines

  pub cohorts_clear : Exactly (cohorts_watch b) (NoneAbsent b)
  unfolding cohorts_watch
  cohorts_clear = each (cohort_watches b) no_reshape _ b.reshapes (λ i. rw (cohort_rows b) (cleared _ _))

  pub rotations_clear : Exactly (rotations_fit b) (NoMisfit b)
  rotations_clear = record {
    clean = λ h. let t = rows.clean (sym (pairs_are b) ∙ h) in record { seated = (cleared (parties_sit b) b.rotations).clean (sitting.holds (λ i m. (t i m).0)); apart = λ i m. (t i m).1 };
    holds = λ h. pairs_are b ∙ rows.holds (λ i m. (sitting.clean ((cleared (parties_sit b) b.rotations).holds h.seated) i m, h.apart i m));
  }
    where
      sitting : Exactly (every (parties_sit b) b.rotations) ((i : ℕ) → i < length b.rotations → parties_sit b (get_or b.rotations i no_rotation) ≡ true)
      sitting = each (parties_sit b) no_rotation _ b.rotations (λ i. told)

      rows : Exactly (pairwise b b.rotations) ((i : ℕ) → i < length b.rotations → (parties_sit b (get_or b.rotations i no_rotation) ≡ true) × (sharing_rotation b i (i + 1) ≡ length b.rotations))
      rows = each_row (pairwise b) (fits_before b) refl (λ r l. refl) no_rotation _ b.rotations (λ i m. rw (fits_parts b) (both told (cleared_from _ _ _ (omega arith))))

  pub scheduled_clear : Exactly (scheduled_fit b) (NoneUncarved b)
  unfolding scheduled_fit
  scheduled_clear = record {
    clean = λ h. let t = rows.clean h in record { still = λ i m. (t i m).0; halved = λ i m. (t i m).1 };
    holds = λ h. rows.holds (λ i m. (h.still i m, h.halved i m));
  }
    where
      rows : Exactly (every (split_fits b) b.reshapes) ((i : ℕ) → i < length b.reshapes → (rotation_there b i 0 ≡ length b.rotations) × (unhalved_machine b i 0 ≡ length b.machines))
      rows = each (split_fits b) no_reshape _ b.reshapes (λ i. rw (split_rows b) (both (cleared _ _) (cleared _ _)))

  pub families_clear : Exactly (families_apart (keys_of b.reshapes)) (NoOverlap b)
  unfolding families_apart keys_of keys_where
  families_clear = each_row (λ rows. families_apart (keys_of rows)) is_family_apart refl (λ e l. refl) no_reshape _ b.reshapes (λ i m. rw (family_rows b) (cleared_from _ _ _ (omega arith)))

  pub reshapes_clear : Exactly (reshapes_stand b) (NoneUnfounded b)
  unfolding reshapes_stand
  reshapes_clear = cleared (reshape_stands b) b.reshapes

  -- ---- and all of them

  pub no_fault : well_formed b ≡ true → Exactly (seat_check b) (NoFault b)
  unfolding seat_check
  no_fault ok = record {
    clean = λ h. let t = all_parts _ h in record {
      members = members_clear.clean t.1.0;
      machines = machines_clear.clean t.1.1.0;
      cohorts = cohorts_clear.clean t.1.1.1.0;
      parties = rotations_clear.clean t.1.1.1.1.0;
      scheduled = scheduled_clear.clean t.1.1.1.1.1.0;
      families = families_clear.clean t.1.1.1.1.1.1.0;
      founded = reshapes_clear.clean t.1.1.1.1.1.1.1.0;
    };
    holds = λ n. all_joins _ (ok, (members_clear.holds n.members, (machines_clear.holds n.machines, (cohorts_clear.holds n.cohorts, (rotations_clear.holds n.parties, (scheduled_clear.holds n.scheduled, (families_clear.holds n.families, (reshapes_clear.holds n.founded, tt))))))));
  }
