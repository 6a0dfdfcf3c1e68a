use mathlib.Core.Path.{ap, sym, ◌∙◌}
use native.Mathlib.Omega.{arith}
use borrow.Author.Tests.{true-eqb, false-eqb}
use Rattle.rules.specs.Table.{Entry}
use Rattle.rules.specs.Board.{Seat}
use Rattle.reshapes.proofs.SeatMoves.{place_within}
use Rattle.admissions.proofs.Opening.{seat_at_end, seat_between, seat_again}
use Rattle.admissions.proofs.seating.put_seat.Goals as goal

pub returns-then-k-ge-MOST_SEATS : goal.returns-then-k-ge-MOST_SEATS
returns-then-k-ge-MOST_SEATS c = λ b h l r m. absurd (omega (arith, place_within _ _ _ (c.place_of-k.ensures.1 b h l r), c.if-k-ge-MOST_SEATS.true))

pub returns-then-count-k : goal.returns-then-count-k
returns-then-count-k c = λ b h l r m.
    let p = c.place_of-k.ensures.1 b h l r in
    let n = c.count.ensures b h l in
    seat_at_end b _ _ _ r _ _ _ p (rw n at c.if-count-k.true) (c.open.ensures b h l m (place_within _ _ _ p))

pub returns-then-eq : goal.returns-then-eq
returns-then-eq c = λ b h l r m.
    let p = c.place_of-k.ensures.1 b h l r in
    let n = c.count.ensures b h l in
    let k = rw n at c.if-count-k.false in
    seat_again b _ _ _ r _ _ _ p k (sym (ap (λ (e : Entry Seat). e.key) (c.at.ensures b h l k)) ∙ true-eqb _ _ c.if-eq.ensures) (c.put.ensures b h l k)

pub returns : goal.returns
returns c = λ b h l r m.
    let p = c.place_of-k.ensures.1 b h l r in
    let n = c.count.ensures b h l in
    let k = rw n at c.if-count-k.false in
    seat_between b _ _ _ r _ _ _ p (λ e. false-eqb _ _ c.if-eq.ensures (ap (λ (q : Entry Seat). q.key) (c.at.ensures b h l k) ∙ e)) (c.open-2.ensures b h l m (place_within _ _ _ p))
