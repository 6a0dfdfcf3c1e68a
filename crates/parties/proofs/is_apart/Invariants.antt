use Prim.Native.Nat.{◌+◌, ◌-◌, ◌≤◌}
use mathlib.Core.Path.{◌≡◌}
use lib.ListN.{length, drop}
use Rattle.rules.specs.Board.{Board, most_rotations}
use Rattle.board.specs.Held.{Holds}
use Rattle.shards.specs.Rotations.{rotation_of}
use Rattle.parties.specs.Pairs.{apart}
use Rattle.parties.proofs.is_apart.Given as goal

abbrev pub invariant-loop-k : goal.invariant-loop-k
invariant-loop-k l = (l.n ≤ most_rotations)
    × ((b : Board) → Holds l.board b → (l.n ≡ length b.rotations) × (apart (rotation_of l.p) (drop (l.i + 1) b.rotations) ≡ apart (rotation_of l.p) (drop l.k b.rotations)))
