use Prim.Native.Nat.{◌+◌, ◌≤◌}
use mathlib.Core.Path.{◌≡◌}
use mathlib.Core.Bool.{true}
use lib.ListN.{length, drop}
use Rattle.rules.specs.Lists.{count}
use Rattle.rules.specs.Board.{Board, most_rotations}
use Rattle.rules.specs.WellFormed.{well_formed}
use Rattle.board.specs.Held.{Holds}
use Rattle.committee.specs.Counted.{counts}
use Rattle.committee.proofs.reads.rotations_on.Given as goal

abbrev pub invariant-loop-i : goal.invariant-loop-i
invariant-loop-i l = (l.i ≤ l.n) × (l.n ≤ most_rotations) × (l.k ≤ l.i)
    × ((b : Board) → Holds l.board b → well_formed b ≡ true → (l.n ≡ length b.rotations) × (l.k + count (counts l.which l.shard.0 b) (drop l.i b.rotations) ≡ count (counts l.which l.shard.0 b) b.rotations))
