use Prim.Native.Nat.{◌<◌}
use mathlib.Core.Path.{◌≡◌, ap, ◌∙◌}
use native.Mathlib.Omega.{arith}
use lib.ListN.{length, get_or}
use Rattle.rules.specs.Lists.{bit_of}
use Rattle.rules.specs.Table.{Entry, count_where}
use Rattle.rules.specs.Board.{Seat}
use Rattle.board.specs.Held.{no_reshape, no_seat}
use Rattle.reshapes.proofs.OfReshapes.{seats_room}
use Rattle.pool.proofs.Pools.{bit_most}
use Rattle.committee.proofs.Asked.{count_next, count_none}
use Rattle.waits.specs.Counts.{is_for}
use Rattle.waits.proofs.seats_for.Goals as goal

pub loop-k-init : goal.loop-k-init
unfolding count_where
loop-k-init c = (
  omega arith,
  c.rows_within-n.ensures.0,
  omega arith,
  λ b h l.
      let n = c.count.ensures b h l in
      (c.rows_within-n.ensures.1 (rw n (seats_room _ b h _ l)) ∙ n, omega arith),
)

pub overflow_add-r : goal.overflow_add-r
overflow_add-r c = omega (arith, c.from-r.ensures, bit_most c.eq.result)

pub loop-k-preserved : goal.loop-k-preserved
loop-k-preserved c =
    let a = c.loop-k in
    let p = c.args in (
      omega arith,
      a.invariant.1,
      omega (arith, c.from-r.ensures, bit_most c.eq.result),
      λ b h l.
          let t = a.invariant.3 b h l in
          let seats = (get_or b.reshapes p.i no_reshape).val.seats in
          let m : a.k < length seats = omega (arith, t.0, c.loop-k-test.true) in
          let e : c.from-r.result ≡ bit_of (is_for p.child.0 (get_or seats a.k no_seat).val) = c.from-r.ensures ∙ ap bit_of c.eq.ensures ∙ ap (λ (q : Entry Seat). bit_of (is_for p.child.0 q.val)) (c.at-seat.ensures b h l m) in
          (t.0, omega (arith, t.1, e, count_next (λ (e : Entry Seat). is_for p.child.0 e.val) seats a.k no_seat m)),
    )

pub returns : goal.returns
returns c =
    let a = c.loop-k in
    let p = c.args in (
      omega arith,
      λ b h l.
          let t = a.invariant.3 b h l in
          omega (arith, t.1, count_none (λ (e : Entry Seat). is_for p.child.0 e.val) (get_or b.reshapes p.i no_reshape).val.seats a.k (omega (arith, t.0, c.loop-k-test.false))),
    )
