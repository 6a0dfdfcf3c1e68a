use mathlib.Core.Path.{ap}
use Rattle.types.specs.declared.Machine.{Machine}
use Rattle.committee.proofs.Rotates.{row_within, opened_at, seat_rotations}
use Rattle.committee.proofs.rotate.open_at.Goals as goal

pub returns : goal.returns
returns c = λ b h ok l m f.
    let s = c.seat_drawn.ensures b h ok l m in
    opened_at _ _ b _ f _ _ _ _ (ap (λ (y : Machine). y.id.0) (c.at-m.ensures b h l)) (c.epoch-opened.ensures b h) (c.open.ensures _ s (rw (seat_rotations _ _ _ b) f.free) (rw (seat_rotations _ _ _ b) (row_within _ _ b _ f 0)))
