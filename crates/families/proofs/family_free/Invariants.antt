use Prim.Native.Nat.{◌≤◌}
use mathlib.Core.Path.{◌≡◌}
use lib.ListN.{length}
use Rattle.rules.specs.Board.{Board, most_reshapes}
use Rattle.board.specs.Held.{Holds}
use Rattle.families.proofs.Refusing.{taken_from}
use Rattle.families.proofs.family_free.Given as goal

abbrev pub invariant-loop-i : goal.invariant-loop-i
invariant-loop-i l = (l.i ≤ l.n) × (l.n ≤ most_reshapes)
    × ((b : Board) → Holds l.board b → (l.n ≡ length b.reshapes) × (taken_from l.target.0 b.reshapes l.i ≡ taken_from l.target.0 b.reshapes 0))
