use Prim.Native.Nat.{◌-◌, ◌≤◌}
use mathlib.Core.Path.{◌≡◌}
use mathlib.Core.List.{◌++◌}
use lib.ListN.{length, take, drop}
use Rattle.rules.specs.Table.{keys_where}
use Rattle.rules.specs.Board.{Board, most_reshapes, epoch_of}
use Rattle.board.specs.Held.{Holds}
use Rattle.batches.specs.Targets.{is_wanted, targets_of}
use Rattle.batches.proofs.targets.Given as goal

abbrev pub invariant-loop-i : goal.invariant-loop-i
invariant-loop-i l = (l.i ≤ l.n) × (l.n ≤ most_reshapes) × (l.k ≤ l.i) × (length l.out ≡ most_reshapes)
    × ((b : Board) → Holds l.board b → (l.n ≡ length b.reshapes) × (l.epoch.0 ≡ epoch_of b) × (take l.k l.out ++ keys_where (is_wanted l.which (epoch_of b)) (drop l.i b.reshapes) ≡ targets_of l.which b))
