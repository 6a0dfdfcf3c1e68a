use mathlib.Core.Path.{refl, ◌∙◌}
use Rattle.types.specs.Places.{is_seated_on}
use Rattle.gathering.proofs.Gathers.{staying_one}
use Rattle.gathering.proofs.stays.Goals as goal

pub returns : goal.returns
returns c = λ b h ok. staying_one _ b _ _ (c.is_seated_on.ensures ∙ c.place_of.ensures b h ok (is_seated_on c.args.shard.0) refl) _ (c.enters.ensures b h)
