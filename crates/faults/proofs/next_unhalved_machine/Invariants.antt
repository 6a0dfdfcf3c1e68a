use Prim.Native.Nat.{max, ◌≤◌, ◌<◌}
use lib.ListN.{length, get_or}
use Rattle.rules.specs.Board.{Board, most_machines}
use Rattle.board.specs.Held.{Holds, no_reshape}
use Rattle.faults.specs.Firsts.{is_halved}
use Rattle.faults.proofs.Seeking.{Seeks}
use Rattle.faults.proofs.next_unhalved_machine.Given as goal

abbrev pub invariant-loop-k : goal.invariant-loop-k
invariant-loop-k l = (l.k ≤ max l.at l.n) × (l.n ≤ most_machines) × ((b : Board) → Holds l.board b → l.i < length b.reshapes → Seeks (is_halved (get_or b.reshapes l.i no_reshape)) b.machines l.at l.n l.k)
