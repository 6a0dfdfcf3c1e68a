use Prim.Native.Nat.{max, ◌≤◌}
use mathlib.Core.Path.{◌≡◌}
use mathlib.Core.Bool.{true}
use Rattle.rules.specs.Board.{Board, most_reshapes}
use Rattle.rules.specs.WellFormed.{well_formed}
use Rattle.board.specs.Held.{Holds}
use Rattle.seats.specs.Rows.{reshape_stands}
use Rattle.faults.proofs.Seeking.{Seeks}
use Rattle.faults.proofs.next_unfounded_reshape.Given as goal

abbrev pub invariant-loop-i : goal.invariant-loop-i
invariant-loop-i l = (l.i ≤ max l.at l.n) × (l.n ≤ most_reshapes) × ((b : Board) → Holds l.board b → well_formed b ≡ true → Seeks (reshape_stands b) b.reshapes l.at l.n l.i)
