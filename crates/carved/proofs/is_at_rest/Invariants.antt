use Prim.Native.Nat.{◌-◌, ◌≤◌}
use mathlib.Core.Path.{◌≡◌}
use mathlib.Core.Bool.{not}
use lib.ListN.{length, drop}
use Rattle.rules.specs.Lists.{every, any}
use Rattle.rules.specs.Board.{Board, most_rotations}
use Rattle.rules.specs.Moves.{is_on}
use Rattle.board.specs.Held.{Holds}
use Rattle.carved.proofs.is_at_rest.Given as goal

abbrev pub invariant-loop-i : goal.invariant-loop-i
invariant-loop-i l = (l.i ≤ l.n) × (l.n ≤ most_rotations)
    × ((b : Board) → Holds l.board b
    → (l.n ≡ length b.rotations) × (not (any (is_on l.shard.0) b.rotations) ≡ every (λ r. not (is_on l.shard.0 r)) (drop l.i b.rotations)))
