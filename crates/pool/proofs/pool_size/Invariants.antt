use Prim.Native.Nat.{◌+◌, ◌≤◌}
use mathlib.Core.Path.{◌≡◌}
use lib.ListN.{length, drop}
use Rattle.types.specs.Places.{is_pooled}
use Rattle.rules.specs.Table.{keys_where}
use Rattle.rules.specs.Board.{Board, most_machines}
use Rattle.rules.specs.Moves.{pool_of}
use Rattle.board.specs.Held.{Holds}
use Rattle.pool.proofs.pool_size.Given as goal

abbrev pub invariant-loop-i : goal.invariant-loop-i
invariant-loop-i l = (l.i ≤ l.n) × (l.n ≤ most_machines) × (l.k ≤ l.i)
    × ((b : Board) → Holds l.ws b → (l.n ≡ length b.machines) × (l.k + length (keys_where is_pooled (drop l.i b.machines)) ≡ length (pool_of b)))
