use Rattle.std.proofs.Common.{◌≡◌, ◌+◌, ◌-◌, ◌<◌, ◌≤◌, length, get_or, drop}
use Rattle.rules.specs.Lists.{count}
use Rattle.rules.specs.Table.{Entry, count_where}
use Rattle.rules.specs.Board.{Seat, Board, most_seats}
use Rattle.board.specs.Held.{Holds, no_reshape}
use Rattle.drains.specs.Plans.{counts_seat}
use Rattle.drains.proofs.ready_seats.Given as goal

abbrev pub invariant-loop-k : goal.invariant-loop-k
invariant-loop-k l = (l.k ≤ l.n) × (l.n ≤ most_seats) × (l.ready ≤ l.k)
    × ((b : Board) → Holds l.board b → l.i < length b.reshapes →
    (l.n ≡ length (get_or b.reshapes l.i no_reshape).val.seats)
    × (l.ready + count (λ (e : Entry Seat). counts_seat l.whose e.val) (drop l.k (get_or b.reshapes l.i no_reshape).val.seats) ≡ count_where (counts_seat l.whose) (get_or b.reshapes l.i no_reshape).val.seats))
