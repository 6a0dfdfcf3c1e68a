use mathlib.Core.Path.{refl, ◌∙◌}
use native.Mathlib.Omega.{arith}
use Rattle.reshapes.specs.Changes.{seat_entry}
use Rattle.reshapes.proofs.OfReshapes.{seats_room}
use Rattle.lapses.proofs.Lapses.{none_gone, one_gone, all_gone}
use Rattle.lapses.proofs.send_all_back.Goals as goal

pub loop-k-init : goal.loop-k-init
loop-k-init c = (
  omega arith,
  c.rows_within-n.ensures.0,
  omega arith,
  refl,
  λ b h ok l. (c.rows_within-n.ensures.1 (rw (c.count.ensures b h l) (seats_room _ b h _ l)) ∙ c.count.ensures b h l, none_gone _ _ b _ h ok),
)

pub overflow_add-r : goal.overflow_add-r
overflow_add-r c = omega (arith, c.send_back-r.ensures.0)

pub loop-k-preserved : goal.loop-k-preserved
loop-k-preserved c = let a = c.loop-k in (
  omega arith,
  a.invariant.1,
  omega (arith, c.send_back-r.ensures.0),
  c.send_back-r.auto.board ∙ a.invariant.3,
  λ b h ok l.
      let t = a.invariant.4 b h ok l in (
        t.0,
        one_gone _ _ b _ _ _ t.1 l ok _ (omega (arith, t.0)) (seat_entry c.at-seat.result) c.at-seat.ensures c.send_back-r.result
            c.send_back-r.ensures.1,
      ),
)

pub returns : goal.returns
returns c = λ b h ok l.
    let t = c.loop-k.invariant.4 b h ok l in
    all_gone _ _ b _ _ _ t.1 l (omega (arith, t.0, c.loop-k-test.false))
