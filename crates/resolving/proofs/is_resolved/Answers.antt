use mathlib.Core.Path.{refl, ◌∙◌}
use Rattle.types.specs.Places.{is_seated_on, is_ready}
use Rattle.shards.specs.Rotations.{rotation_of}
use Rattle.resolving.proofs.Closes.{resolved_is}
use Rattle.resolving.proofs.is_resolved.Goals as goal

pub returns : goal.returns
returns c = λ b h ok l.
    let q = rotation_of c.at-r.result in
    rw (← c.at-r.ensures b h l) (resolved_is b q _ _ (c.is_seated_on-seated.ensures ∙ c.place_of-p.ensures b h ok (is_seated_on q.shard) refl) (c.is_ready-ready.ensures ∙ c.place_of-p.ensures b h ok is_ready refl))
