use mathlib.Core.Path.{ap}
use Rattle.types.specs.declared.Machine.{Machine}
use Rattle.joining.proofs.Placed.{placed}
use Rattle.joining.proofs.put_place.Goals as goal

pub returns : goal.returns
returns c = λ b h r l.
    let e = ap (λ (m : Machine). m.id.0) (c.at-m.ensures b h l) in
    placed _ b _ _ _ r l e (c.put.ensures b h l)
