use Prim.Native.Nat.{◌-◌, ◌≤◌, ◌<◌}
use mathlib.Core.Path.{◌≡◌}
use lib.ListN.{length, get_or, drop}
use Rattle.rules.specs.Lists.{every}
use Rattle.rules.specs.Board.{Board, most_machines}
use Rattle.rules.specs.SeatCheck.{is_in_one_half}
use Rattle.board.specs.Held.{Holds, no_reshape}
use Rattle.carved.proofs.halves_fit.Given as goal

abbrev pub invariant-loop-k : goal.invariant-loop-k
invariant-loop-k l = (l.k ≤ l.n) × (l.n ≤ most_machines)
    × ((b : Board) → Holds l.board b → l.i < length b.reshapes
    → (l.n ≡ length b.machines)
    × (every (is_in_one_half l.target.0 (get_or b.reshapes l.i no_reshape).val) b.machines ≡ every (is_in_one_half l.target.0 (get_or b.reshapes l.i no_reshape).val) (drop l.k b.machines)))
