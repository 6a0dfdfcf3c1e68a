use mathlib.Core.Path.{ap, ◌∙◌}
use mathlib.Core.Bool.{Bool, beq}
use Rattle.moves.proofs.Exiting.{kind_asked}
use Rattle.moves.proofs.is_of_kind.Goals as goal

pub returns : goal.returns
returns c = λ b h l. ap (λ (m : Bool). beq m c.args.merging) (c.is_merge.ensures b h l) ∙ kind_asked c.args.merging _
