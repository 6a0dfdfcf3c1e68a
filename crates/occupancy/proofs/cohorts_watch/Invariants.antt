use Prim.Native.Nat.{◌-◌, ◌≤◌}
use mathlib.Core.Path.{◌≡◌}
use mathlib.Core.Bool.{true}
use lib.ListN.{length, drop}
use Rattle.rules.specs.Lists.{every}
use Rattle.rules.specs.Board.{Board, most_reshapes}
use Rattle.rules.specs.WellFormed.{well_formed}
use Rattle.rules.specs.SeatCheck.{cohorts_watch}
use Rattle.board.specs.Held.{Holds}
use Rattle.occupancy.specs.Rows.{cohort_watches}
use Rattle.occupancy.proofs.cohorts_watch.Given as goal

abbrev pub invariant-loop-i : goal.invariant-loop-i
invariant-loop-i l = (l.i ≤ l.n) × (l.n ≤ most_reshapes)
    × ((b : Board) → Holds l.board b → well_formed b ≡ true → (l.n ≡ length b.reshapes) × (cohorts_watch b ≡ every (cohort_watches b) (drop l.i b.reshapes)))
