use Prim.Native.Nat.{max, ◌≤◌, ◌<◌}
use mathlib.Core.Bool.{not}
use lib.ListN.{length, get_or}
use Rattle.rules.specs.Board.{Board, most_reshapes}
use Rattle.rules.specs.Moves.{overlaps}
use Rattle.board.specs.Held.{Holds, no_reshape}
use Rattle.faults.proofs.Seeking.{Seeks}
use Rattle.faults.proofs.next_overlapping_reshape.Given as goal

abbrev pub invariant-loop-k : goal.invariant-loop-k
invariant-loop-k l = (l.k ≤ max l.at l.n) × (l.n ≤ most_reshapes) × ((b : Board) → Holds l.board b → l.i < length b.reshapes → Seeks (λ e. not (overlaps (get_or b.reshapes l.i no_reshape).key e.key)) b.reshapes l.at l.n l.k)
