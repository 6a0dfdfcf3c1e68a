use Prim.Native.Nat.{◌≤◌}
use mathlib.Core.Path.{◌≡◌}
use mathlib.Core.Bool.{true}
use lib.ListN.{length}
use Rattle.rules.specs.Board.{Board, most_rotations}
use Rattle.rules.specs.WellFormed.{well_formed}
use Rattle.board.specs.Held.{Holds}
use Rattle.committee.proofs.Aborts.{Left}
use Rattle.committee.proofs.abort.abort_rotations.Given as goal

abbrev pub invariant-loop-i : goal.invariant-loop-i
invariant-loop-i l = (l.i ≤ l.n) × (l.n ≤ most_rotations) × (length l.board ≡ length l.initial.board)
    × ((b : Board) → Holds l.initial.board b → well_formed b ≡ true → (l.n ≡ length b.rotations) × Left l.shard.0 b l.i l.board)
