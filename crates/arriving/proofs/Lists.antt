-- What a loop asks of each of a list, and does for each.
use Prim.Native.Nat.{ℕ, ◌≤◌, ◌<◌}
use mathlib.Core.Path.{◌≡◌, refl, ap, sym, ◌∙◌}
use mathlib.Core.List.{List, [], ◌∷◌, ◌++◌}
use mathlib.Core.Bool.{Bool, true, false, true≢false}
use Rattle.rules.specs.Lists.{◌and◌, every}
use Rattle.rules.specs.Table.{Table, stands}
use Rattle.rules.specs.Board.{Reshape, Board, most_machines, on_reshapes}
use Rattle.rules.specs.WellFormed.{well_formed}
use Rattle.rules.specs.Moves.{for_all}
use Rattle.rules.proofs.Tests.{every_parts}
use Rattle.board.specs.Held.{no_machine}
use Rattle.board.proofs.Keyed.{machines_rise}

module _ {A : Type 0} (f : A → Bool) (l : List A) where
  pub every_ended : l ≡ [] → every f l ≡ true
  unfolding every
  every_ended e = ap (every f) e

  module _ (x : A) (m : List A) (e : l ≡ x ∷ m) where
    every_more : f x ≡ true → every f l ≡ every f m
    unfolding every ◌and◌
    every_more y = ap (every f) e ∙ rw y

    every_fails : f x ≡ false → every f l ≡ false
    unfolding every ◌and◌
    every_fails n = ap (every f) e ∙ rw n

-- ---- the records of a list's machines: one is asked after another

abbrev pub known : Board → ℕ → Bool
known b x = stands x b.machines

module _ (b : Board) (all l m : List ℕ) (x y : ℕ) (e : l ≡ x ∷ m) (i : y ≡ x) (s : every (known b) all ≡ every (known b) l) where
  pub is_unknown : stands y b.machines ≡ false → false ≡ every (known b) all
  is_unknown h = sym (s ∙ every_fails (known b) l x m e (rw i at h))

  pub is_known : stands y b.machines ≡ true → every (known b) all ≡ every (known b) m
  is_known h = s ∙ every_more (known b) l x m e (rw i at h)

-- ---- two lists

module _ {A : Type 0} (f : A → Bool) where
  pub first_passes : (l m : List A) → every f l ≡ true → every f (l ++ m) ≡ every f m
  unfolding every ◌and◌
  first_passes [] m e = refl
  first_passes (x ∷ l) m e = let p = every_parts f x l e in rw p.0 (first_passes l m p.1)

  pub first_fails : (l m : List A) → every f l ≡ false → every f (l ++ m) ≡ false
  unfolding every ◌and◌
  first_fails [] m e = absurd (true≢false e)
  first_fails (x ∷ l) m e = go (f x) e (first_fails l m)
    where
      go : (q : Bool) → (q and every f l) ≡ false → (every f l ≡ false → every f (l ++ m) ≡ false) → (q and every f (l ++ m)) ≡ false
      go true h ih = ih h
      go false h ih = refl

pub for_all_append : {A : Type 0} (move : A → Board → Board) (l m : List A) (b : Board) → for_all move (l ++ m) b ≡ for_all move m (for_all move l b)
unfolding for_all
for_all_append move [] m b = refl
for_all_append move (x ∷ l) m b = for_all_append move l m (move x b)

-- moves that leave the reshapes alone may come before a change of them, or after
pub for_all_elsewhere : {A : Type 0} (f : Table Reshape → Table Reshape) (move : A → Board → Board) → ((x : A) (b : Board) → move x (on_reshapes f b) ≡ on_reshapes f (move x b))
    → (l : List A) (b : Board) → for_all move l (on_reshapes f b) ≡ on_reshapes f (for_all move l b)
unfolding for_all
for_all_elsewhere f move k [] b = refl
for_all_elsewhere f move k (x ∷ l) b = ap (for_all move l) (k x b) ∙ for_all_elsewhere f move k l (move x b)
