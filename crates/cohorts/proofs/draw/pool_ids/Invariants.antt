use Prim.Native.Nat.{◌+◌, ◌-◌, ◌≤◌}
use mathlib.Core.Path.{◌≡◌}
use mathlib.Core.List.{◌++◌}
use lib.ListN.{length, take, drop}
use Rattle.types.specs.Places.{is_pooled}
use Rattle.rules.specs.Table.{keys_where}
use Rattle.rules.specs.Board.{Board, most_machines}
use Rattle.rules.specs.Moves.{pool_of}
use Rattle.board.specs.Held.{Holds}
use Rattle.cohorts.proofs.draw.pool_ids.Given as goal

abbrev pub invariant-loop-i : goal.invariant-loop-i
invariant-loop-i l = (l.i ≤ l.n) × (l.n ≤ most_machines) × (l.k ≤ l.i) × (length l.out ≡ length l.initial.out)
    × ((b : Board) → Holds l.board b → (l.n ≡ length b.machines) × (take l.k l.out ++ keys_where is_pooled (drop l.i b.machines) ≡ pool_of b))
