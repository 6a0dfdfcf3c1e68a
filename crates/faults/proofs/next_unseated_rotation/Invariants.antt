use Prim.Native.Nat.{max, ◌≤◌}
use mathlib.Core.Path.{◌≡◌}
use mathlib.Core.Bool.{true}
use Rattle.rules.specs.Board.{Board, most_rotations}
use Rattle.rules.specs.WellFormed.{well_formed}
use Rattle.board.specs.Held.{Holds}
use Rattle.faults.specs.Firsts.{parties_sit}
use Rattle.faults.proofs.Seeking.{Seeks}
use Rattle.faults.proofs.next_unseated_rotation.Given as goal

abbrev pub invariant-loop-i : goal.invariant-loop-i
invariant-loop-i l = (l.i ≤ max l.at l.n) × (l.n ≤ most_rotations) × ((b : Board) → Holds l.board b → well_formed b ≡ true → Seeks (parties_sit b) b.rotations l.at l.n l.i)
