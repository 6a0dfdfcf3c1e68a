use mathlib.Core.Path.{refl}
use Rattle.rules.specs.Lists.{◌or◌}
use Rattle.marks.proofs.has_side.Goals as goal

pub returns-in-Left : goal.returns-in-Left
unfolding ◌or◌
returns-in-Left c = λ b h l. rw c.in-Left.is refl

pub returns-in-Right : goal.returns-in-Right
unfolding ◌or◌
returns-in-Right c = λ b h l. rw c.in-Right.is (c.is_merge.ensures b h l)
