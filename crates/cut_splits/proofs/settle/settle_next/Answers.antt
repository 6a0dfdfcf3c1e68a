use mathlib.Core.Path.{refl, sym}
use native.Mathlib.Omega.{arith}
use Rattle.reshapes.specs.Changes.{seat_entry}
use Rattle.arriving.specs.Coming.{reshape_in}
use Rattle.reshapes.specs.Changes.{half_of}
use Rattle.cut_splits.proofs.Children.{turn_half, turn_seat, turn_passed, one_settled, none_settled}
use Rattle.cut_splits.proofs.settle.settle_next.Goals as goal

pub returns-then-k-n : goal.returns-then-k-n
returns-then-k-n c = λ b h ok l n e m z.
    let g = c.args in
    let half = half_of g.side (reshape_in g.i b) in
    let seats = (reshape_in g.i b).seats in
    let i = c.at-id.ensures b h l (omega (arith, e, c.if-k-n.true)) in
    let t = turn_half g.child.0 half seats g.k g.n e c.if-k-n.true in
    one_settled _ g.child.0 seats b _ _ _ _ t i (c.settle.ensures b h ok l n (rw i (z _ t)))

pub returns-then-eq : goal.returns-then-eq
returns-then-eq c = λ b h ok l n e m z.
    let g = c.args in
    let half = half_of g.side (reshape_in g.i b) in
    let seats = (reshape_in g.i b).seats in
    let q = seat_entry c.at-seat.result in
    let s = c.at-seat.ensures b h l (omega (arith, m, c.if-k-n.false)) in
    let t = turn_seat g.child.0 half seats g.k g.n e c.if-k-n.false q s (sym c.if-eq.ensures) in
    one_settled _ g.child.0 seats b _ _ _ _ t refl (c.settle-then-eq.ensures b h ok l n (z _ t))

pub returns-else-eq : goal.returns-else-eq
returns-else-eq c = λ b h ok l n e m z.
    let g = c.args in
    let half = half_of g.side (reshape_in g.i b) in
    let seats = (reshape_in g.i b).seats in
    let q = seat_entry c.at-seat.result in
    let s = c.at-seat.ensures b h l (omega (arith, m, c.if-k-n.false)) in
    none_settled _ g.child.0 seats b _ _ (turn_passed g.child.0 half seats g.k g.n e c.if-k-n.false q s (sym c.if-eq.ensures)) h
