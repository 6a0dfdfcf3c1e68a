use Prim.Native.Nat.{◌≤◌}
use mathlib.Core.Path.{◌≡◌}
use mathlib.Core.Bool.{true}
use lib.ListN.{length}
use Rattle.rules.specs.Board.{Board, most_rotations}
use Rattle.rules.specs.WellFormed.{well_formed}
use Rattle.board.specs.Held.{Holds}
use Rattle.resolving.specs.Walked.{Marked}
use Rattle.resolving.proofs.Walks.{Walked}
use Rattle.resolving.proofs.close_marked.Given as goal

abbrev pub invariant-loop-i : goal.invariant-loop-i
invariant-loop-i l = (l.i ≤ l.n) × (l.n ≤ most_rotations) × (l.row ≤ l.i) × (length l.board ≡ length l.initial.board)
    × ((b : Board) → Holds l.initial.board b → well_formed b ≡ true → Marked b l.marks → (l.n ≡ length b.rotations) × Walked b l.i l.row l.board)
