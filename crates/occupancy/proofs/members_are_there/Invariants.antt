use Prim.Native.Nat.{◌-◌, ◌≤◌}
use mathlib.Core.Path.{◌≡◌}
use mathlib.Core.Bool.{true}
use lib.ListN.{length, drop}
use Rattle.rules.specs.Lists.{every}
use Rattle.rules.specs.Board.{Board, most_committees}
use Rattle.rules.specs.WellFormed.{well_formed}
use Rattle.rules.specs.SeatCheck.{members_are_there}
use Rattle.board.specs.Held.{Holds}
use Rattle.occupancy.specs.Rows.{committee_is_there}
use Rattle.occupancy.proofs.members_are_there.Given as goal

abbrev pub invariant-loop-j : goal.invariant-loop-j
invariant-loop-j l = (l.j ≤ l.n) × (l.n ≤ most_committees)
    × ((b : Board) → Holds l.board b → well_formed b ≡ true → (l.n ≡ length b.committees) × (members_are_there b ≡ every (committee_is_there b) (drop l.j b.committees)))
