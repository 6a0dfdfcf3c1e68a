-- What the seat check takes from a well-formed board: rising keys, distinct ids, targets and seats in order.
use mathlib.Core.Path.{◌≡◌}
use mathlib.Core.Logic.{◌⊎◌, inl, inr}
use mathlib.Core.List.{List}
use mathlib.Core.Option.{some}
use mathlib.Core.Bool.{true}
use Prim.Native.Nat.{ℕ, ◌+◌, ◌≤◌}
use native.Mathlib.Omega.{arith}
use lib.Dec.{eqb}
use Rattle.types.specs.Numbers.{Shard, Id}
use Rattle.types.specs.Shards.{left_of, right_of}
use Rattle.rules.specs.Lists.{bit_of}
use Rattle.rules.specs.Table.{entry, at}
use Rattle.rules.specs.Board.{Seat, Reshape, Board}
use Rattle.rules.specs.WellFormed.{good_list, good_ids, good_committee, good_seat, good_reshape, well_formed}
use Rattle.rules.proofs.Counts.{occ}
use Rattle.rules.proofs.Tables.{From}
use Rattle.rules.proofs.Tests.{and_parts, or_cases, all_parts, le_of, every_at, rising_table}
use Rattle.rules.proofs.KeptLists.{distinct_once}
use Rattle.rules.proofs.SeatsLaws.{bit_yes}

-- a reshape with its target
pub record Sound (t : Shard) (r : Reshape) : Type 0 where
  pub pos : 1 ≤ t
  pub rows : From 0 r.seats
  pub kids : (x : Id) (q : Seat) → at x r.seats ≡ some q → 1 ≤ bit_of (eqb q.child (left_of t)) + bit_of (eqb q.child (right_of t))
  pub left : (x : Id) → occ x r.left ≤ 1
  pub right : (x : Id) → occ x r.right ≤ 1

pub record Formed (b : Board) : Type 0 where
  pub ids : From 0 b.machines
  pub shards : From 0 b.committees
  pub targets : From 0 b.reshapes
  pub once : (s : Shard) (l : List Id) → at s b.committees ≡ some l → (x : Id) → occ x l ≤ 1
  pub sound : (t : Shard) (r : Reshape) → at t b.reshapes ≡ some r → Sound t r

-- ids that are good stand once
ids_once : (most : ℕ) (l : List Id) → good_ids most l ≡ true → (x : Id) → occ x l ≤ 1
unfolding good_ids
ids_once most l h = distinct_once l (all_parts _ h).1.1.0

seat_kid : (t : Shard) (x : Id) (q : Seat) → good_seat t (entry x q) ≡ true → 1 ≤ bit_of (eqb q.child (left_of t)) + bit_of (eqb q.child (right_of t))
unfolding good_seat
seat_kid t x q h = go (or_cases _ _ (and_parts _ _ h).1)
  where
    go : (eqb q.child (left_of t) ≡ true) ⊎ (eqb q.child (right_of t) ≡ true) → 1 ≤ bit_of (eqb q.child (left_of t)) + bit_of (eqb q.child (right_of t))
    go (inl e) = omega (arith, bit_yes _ e)
    go (inr e) = omega (arith, bit_yes _ e)

reshape_sound : (t : Shard) (r : Reshape) → good_reshape (entry t r) ≡ true → Sound t r
unfolding good_reshape good_list
reshape_sound t r h =
    let p = all_parts _ h in
    let q = all_parts _ p.1.1.1.1.1.0 in
    record {
      pos = le_of _ _ (and_parts _ _ p.0).0;
      rows = rising_table _ q.1.1.0;
      kids = λ x s e. seat_kid t x s (every_at _ _ x s q.1.0 e);
      left = ids_once _ _ p.1.1.1.1.1.1.0;
      right = ids_once _ _ p.1.1.1.1.1.1.1.0;
    }

pub formed : (b : Board) → well_formed b ≡ true → Formed b
unfolding well_formed good_list good_committee
formed b h =
    let p = all_parts _ h in
    let machines = all_parts _ p.1.0 in
    let committees = all_parts _ p.1.1.0 in
    let reshapes = all_parts _ p.1.1.1.1.1.0 in
    record {
      ids = rising_table _ machines.1.1.0;
      shards = rising_table _ committees.1.1.0;
      targets = rising_table _ reshapes.1.1.0;
      once = λ s l e. ids_once _ _ (and_parts _ _ (every_at _ _ s l committees.1.0 e)).1;
      sound = λ t r e. reshape_sound t r (every_at _ _ t r reshapes.1.0 e);
    }
