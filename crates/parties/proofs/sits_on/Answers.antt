use mathlib.Core.Path.{refl, ◌∙◌}
use Rattle.types.specs.Places.{is_seated_on}
use Rattle.parties.proofs.sits_on.Goals as goal

pub returns : goal.returns
returns c = λ b h ok. c.is_seated_on.ensures ∙ c.place_of.ensures b h ok (is_seated_on _) refl
