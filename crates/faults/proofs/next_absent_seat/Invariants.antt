use Prim.Native.Nat.{max, ◌≤◌, ◌<◌}
use mathlib.Core.Path.{◌≡◌}
use mathlib.Core.Bool.{true}
use lib.ListN.{length, get_or}
use Rattle.rules.specs.Board.{Board, most_seats}
use Rattle.rules.specs.WellFormed.{well_formed}
use Rattle.board.specs.Held.{Holds, no_reshape}
use Rattle.faults.specs.Firsts.{seat_watches}
use Rattle.faults.proofs.Seeking.{Seeks}
use Rattle.faults.proofs.next_absent_seat.Given as goal

abbrev pub invariant-loop-k : goal.invariant-loop-k
invariant-loop-k l = (l.k ≤ max l.at l.n) × (l.n ≤ most_seats) × ((b : Board) → Holds l.board b → well_formed b ≡ true → l.i < length b.reshapes → Seeks (seat_watches b (get_or b.reshapes l.i no_reshape)) (get_or b.reshapes l.i no_reshape).val.seats l.at l.n l.k)
