use Prim.Native.Nat.{ℕ, ◌≤◌, ◌<◌}
use mathlib.Core.Path.{◌≡◌}
use mathlib.Core.Bool.{true, false}
use lib.ListN.{length, get_or}
use Rattle.rules.specs.Board.{Board, most_rotations}
use Rattle.rules.specs.WellFormed.{well_formed}
use Rattle.rules.specs.Places.{is_resolved}
use Rattle.board.specs.Held.{Holds, no_rotation}
use Rattle.resolving.proofs.marks_of.Given as goal

abbrev pub invariant-loop-i : goal.invariant-loop-i
invariant-loop-i l = (l.i ≤ l.n) × (l.n ≤ most_rotations) × (length l.marks ≡ most_rotations)
    × ((b : Board) → Holds l.board b → well_formed b ≡ true
    → (l.n ≡ length b.rotations) × ((j : ℕ) → j < l.i → get_or l.marks j false ≡ is_resolved b (get_or b.rotations j no_rotation)))
