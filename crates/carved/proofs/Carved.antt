-- What a scheduled split is asked, as the code has it at a row.
use Prim.Native.Nat.{◌+◌}
use mathlib.Core.Path.{◌≡◌, refl}
use mathlib.Core.List.{List, [], ◌∷◌}
use mathlib.Core.Bool.{Bool, true, false, not, ◌&&◌, beq}
use lib.Dec.{eqb}
use Rattle.types.specs.Numbers.{Shard, Id}
use Rattle.types.specs.Places.{is_seated_on}
use Rattle.types.specs.declared.Place.{Place}
use Rattle.rules.specs.Lists.{◌and◌, ◌or◌, bit_of, every, any, has}
use Rattle.rules.specs.Table.{Entry, entry, is_some}
use Rattle.rules.specs.Board.{merge, Reshape, Board}
use Rattle.rules.specs.Moves.{is_on, is_kind}
use Rattle.rules.specs.Places.{is_scheduled_split}
use Rattle.rules.specs.SeatCheck.{is_in_one_half}
use Rattle.tables.proofs.Bools.{and_is}
use Rattle.moves.proofs.Exiting.{split_unless}
use Rattle.carved.specs.Rows.{split_fits}

-- ---- rotations: none passes the test

pub none_is : {A : Type 0} (f : A → Bool) (l : List A) → not (any f l) ≡ every (λ x. not (f x)) l
unfolding any every ◌and◌ ◌or◌
none_is f [] = refl
none_is f (x ∷ l) = go (f x) (none_is f l)
  where
    go : (c : Bool) → not (any f l) ≡ every (λ y. not (f y)) l → not (c or any f l) ≡ (not c and every (λ y. not (f y)) l)
    go true h = refl
    go false h = h

-- ---- halves: a machine that is seated there, and one that is not

module _ (s : Shard) (r : Reshape) (x : Id) (p : Place) where
  pub not_seated : is_seated_on s p ≡ false → true ≡ is_in_one_half s r (entry x p)
  unfolding is_in_one_half ◌or◌
  not_seated e = rw e

  pub seated_halved : is_seated_on s p ≡ true → (c d : Bool) → c ≡ has x r.left → d ≡ has x r.right → not (beq c d) ≡ is_in_one_half s r (entry x p)
  unfolding is_in_one_half ◌or◌
  seated_halved e c d left right = rw (e, ← left, ← right) (go c d)
    where
      go : (c d : Bool) → not (beq c d) ≡ eqb (bit_of c + bit_of d) 1
      go true true = refl
      go true false = refl
      go false true = refl
      go false false = refl

-- ---- a reshape, by its kind and its terminal

module _ (b : Board) (e : Entry Reshape) where
  pub merge_fits : is_kind merge e.val ≡ true → true ≡ split_fits b e
  unfolding is_scheduled_split ◌and◌ ◌or◌
  merge_fits m = rw (split_unless e.val true m)

  module _ (m : is_kind merge e.val ≡ false) where
    pub unscheduled_fits : is_some e.val.terminal ≡ false → true ≡ split_fits b e
    unfolding is_scheduled_split ◌and◌ ◌or◌
    unscheduled_fits t = rw (split_unless e.val false m, t)

    pub scheduled_fits : is_some e.val.terminal ≡ true → (c d : Bool) → c ≡ not (any (is_on e.key) b.rotations) → d ≡ every (is_in_one_half e.key e.val) b.machines → (c && d) ≡ split_fits b e
    unfolding is_scheduled_split ◌and◌ ◌or◌
    scheduled_fits t c d p q = rw (← p, ← q, split_unless e.val false m, t) (and_is c d)
