use native.Mathlib.Omega.{arith}
use Rattle.reshapes.proofs.SeatMoves.{seats_in_row, place_within}
use Rattle.cohorts.proofs.Watches.{seat_made}
use Rattle.cohorts.proofs.watch.open_seat.Goals as goal

pub returns-then-k-ge-MOST_SEATS : goal.returns-then-k-ge-MOST_SEATS
returns-then-k-ge-MOST_SEATS c = λ b h r l s m n. absurd (omega (arith, place_within _ (seats_in_row c.args.i b) _ (c.place_of-k.ensures.1 b h l s)))

pub returns : goal.returns
returns c = λ b h r l s m n.
    let k = c.place_of-k.ensures.1 b h l s in
    seat_made _ b _ _ _ _ r l s n k (c.open.ensures b h l m (place_within _ (seats_in_row c.args.i b) _ k))
