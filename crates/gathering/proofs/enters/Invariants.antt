use Prim.Native.Nat.{◌≤◌}
use mathlib.Core.Path.{◌≡◌}
use lib.ListN.{length, drop}
use Rattle.rules.specs.Lists.{has}
use Rattle.rules.specs.Board.{Board, most_rotations}
use Rattle.rules.specs.Moves.{entrants_on}
use Rattle.board.specs.Held.{Holds}
use Rattle.gathering.proofs.enters.Given as goal

abbrev pub invariant-loop-row : goal.invariant-loop-row
invariant-loop-row l = (l.row ≤ l.n) × (l.n ≤ most_rotations)
    × ((b : Board) → Holds l.board b → (l.n ≡ length b.rotations) × (has l.id.0 (entrants_on l.shard.0 (drop l.row b.rotations)) ≡ has l.id.0 (entrants_on l.shard.0 b.rotations)))
