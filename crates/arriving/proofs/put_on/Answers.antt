use mathlib.Core.Path.{ap}
use Rattle.types.specs.declared.Machine.{Machine}
use Rattle.board.proofs.Keyed.{machines_rise, committees_rise}
use Rattle.joining.proofs.Placed.{placed_rise, placed_may}
use Rattle.arriving.proofs.Comes.{put_held}
use Rattle.arriving.proofs.put_on.Goals as goal

pub returns : goal.returns
returns c =
    λ b h g l m.
    let i = ap (λ (x : Machine). x.id.0) (c.at-m.ensures b h l) in
    put_held _ b _ _ _ _ i (c.join_near.ensures _ (c.put_place.ensures b h (machines_rise b g) l) (placed_rise _ _ b (committees_rise b g)) (placed_may _ _ b _ _ (rw i m)))
