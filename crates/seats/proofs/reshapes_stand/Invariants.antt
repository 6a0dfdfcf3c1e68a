use Prim.Native.Nat.{◌-◌, ◌≤◌}
use mathlib.Core.Path.{◌≡◌}
use mathlib.Core.Bool.{true}
use lib.ListN.{length, drop}
use Rattle.rules.specs.Lists.{every}
use Rattle.rules.specs.Board.{Board, most_reshapes}
use Rattle.rules.specs.WellFormed.{well_formed}
use Rattle.rules.specs.SeatCheck.{reshapes_stand}
use Rattle.board.specs.Held.{Holds}
use Rattle.seats.specs.Rows.{reshape_stands}
use Rattle.seats.proofs.reshapes_stand.Given as goal

abbrev pub invariant-loop-i : goal.invariant-loop-i
invariant-loop-i l = (l.i ≤ l.n) × (l.n ≤ most_reshapes)
    × ((b : Board) → Holds l.board b → well_formed b ≡ true → (l.n ≡ length b.reshapes) × (reshapes_stand b ≡ every (reshape_stands b) (drop l.i b.reshapes)))
