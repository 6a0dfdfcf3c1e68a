use mathlib.Core.Path.{ap}
use Rattle.types.specs.declared.Machine.{Machine}
use Rattle.board.proofs.Keyed.{machines_rise, committees_rise}
use Rattle.joining.proofs.Placed.{placed_rise, placed_may, seated}
use Rattle.pool.proofs.seat_drawn.Goals as goal

pub returns : goal.returns
returns c = λ b h g l m.
    let i = ap (λ (x : Machine). x.id.0) (c.at-m.ensures b h l) in
    let p = c.put_place.ensures b h (machines_rise b g) l in
    seated _ b _ _ _ _ _ i (c.epoch-epoch.ensures b h) c.drawn_to.ensures
    (c.join.ensures _ p (placed_rise _ _ b (committees_rise b g)) (placed_may _ _ b _ _ (rw i m)))
