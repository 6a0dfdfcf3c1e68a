use Rattle.std.proofs.Common.{◌≡◌, ◌<◌, length, get_or, ap, ◌∙◌, arith}
use Rattle.rules.specs.Lists.{bit_of, count}
use Rattle.rules.specs.Table.{Entry, count_where}
use Rattle.rules.specs.Board.{Seat}
use Rattle.board.specs.Held.{no_reshape, no_seat}
use Rattle.reshapes.proofs.OfReshapes.{seats_room}
use Rattle.pool.proofs.Pools.{bit_most}
use Rattle.committee.proofs.Asked.{count_next, count_none}
use Rattle.drains.specs.Plans.{counts_seat}
use Rattle.drains.proofs.ready_seats.Goals as goal

pub loop-k-init : goal.loop-k-init
unfolding count_where
loop-k-init c = (
  omega arith,
  c.rows_within-n.ensures.0,
  omega arith,
  λ b h l.
      let n = c.count.ensures b h l in
      (c.rows_within-n.ensures.1 (rw n (seats_room _ b h _ l)) ∙ n, omega arith),
)

pub overflow_add-ready : goal.overflow_add-ready
overflow_add-ready c = omega (arith, c.from-ready.ensures, bit_most c.counts_at.result)

pub loop-k-preserved : goal.loop-k-preserved
loop-k-preserved c = let a = c.loop-k in
    let p = c.args in (
      omega arith,
      a.invariant.1,
      omega (arith, c.from-ready.ensures, bit_most c.counts_at.result),
      λ b h l.
          let t = a.invariant.3 b h l in
          let seats = (get_or b.reshapes p.i no_reshape).val.seats in
          let m : a.k < length seats = omega (arith, t.0, c.loop-k-test.true) in
          let e : c.from-ready.result ≡ bit_of (counts_seat p.whose (get_or seats a.k no_seat).val) = c.from-ready.ensures ∙ ap bit_of (c.counts_at.ensures b h l m) in
          (t.0, omega (arith, t.1, e, count_next (λ (e : Entry Seat). counts_seat p.whose e.val) seats a.k no_seat m)),
    )

pub returns : goal.returns
returns c = let a = c.loop-k in
    let p = c.args in (
      omega arith,
      λ b h l.
          let t = a.invariant.3 b h l in
          omega (arith, t.1, count_none (λ (e : Entry Seat). counts_seat p.whose e.val) (get_or b.reshapes p.i no_reshape).val.seats a.k (omega (arith, t.0, c.loop-k-test.false))),
    )
