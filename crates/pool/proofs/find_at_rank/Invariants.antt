use Prim.Native.Nat.{◌≤◌, ◌<◌}
use mathlib.Core.Path.{◌≡◌}
use lib.ListN.{length, get_or}
use Rattle.types.specs.Places.{is_pooled}
use Rattle.rules.specs.Board.{Board, most_machines}
use Rattle.rules.specs.Moves.{pool_of}
use Rattle.board.specs.Held.{Holds}
use Rattle.pool.proofs.Pools.{Ranked}
use Rattle.pool.proofs.find_at_rank.Given as goal

abbrev pub invariant-loop-i : goal.invariant-loop-i
invariant-loop-i l = (l.i ≤ l.n) × (l.n ≤ most_machines)
    × ((b : Board) → Holds l.ws b → l.k < length (pool_of b) → (l.n ≡ length b.machines) × Ranked is_pooled b.machines l.i l.left (get_or (pool_of b) l.k 0))
