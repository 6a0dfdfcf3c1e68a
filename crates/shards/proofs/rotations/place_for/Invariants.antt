use Prim.Native.Nat.{◌+◌, ◌≤◌}
use mathlib.Core.Path.{◌≡◌}
use lib.ListN.{length, drop}
use Rattle.rules.specs.Board.{Board, Rotation, most_rotations}
use Rattle.rules.specs.WellFormed.{rotation_before}
use Rattle.tables.specs.Rows.{first_where}
use Rattle.board.specs.Held.{Holds}
use Rattle.shards.proofs.rotations.place_for.Given as goal

abbrev pub invariant-loop-i : goal.invariant-loop-i
invariant-loop-i l = (l.i ≤ l.n) × (l.n ≤ most_rotations)
    × ((b : Board) (p : Rotation) → Holds l.ws b → p.shard ≡ l.shard.0 → p.victim ≡ l.victim.0
    → (l.n ≡ length b.rotations) × (l.i + first_where (rotation_before p) (drop l.i b.rotations) ≡ first_where (rotation_before p) b.rotations))
