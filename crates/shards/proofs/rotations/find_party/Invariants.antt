use Prim.Native.Nat.{◌+◌, ◌≤◌}
use mathlib.Core.Path.{◌≡◌}
use lib.ListN.{length, drop}
use Rattle.rules.specs.Board.{Board, most_rotations}
use Rattle.rules.specs.Moves.{has_party}
use Rattle.tables.specs.Rows.{first_where}
use Rattle.board.specs.Held.{Holds}
use Rattle.shards.proofs.rotations.find_party.Given as goal

abbrev pub invariant-loop-i : goal.invariant-loop-i
invariant-loop-i l = (l.i ≤ l.n) × (l.n ≤ most_rotations)
    × ((b : Board) → Holds l.ws b
    → (l.n ≡ length b.rotations) × (l.i + first_where (has_party l.shard.0 l.id.0) (drop l.i b.rotations) ≡ first_where (has_party l.shard.0 l.id.0) b.rotations))
