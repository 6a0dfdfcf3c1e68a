use mathlib.Core.Path.{◌∙◌}
use Rattle.halving.proofs.Gates.{half_is}
use Rattle.halving.proofs.is_half_ready.Goals as goal

pub returns : goal.returns
returns c = λ b h ok l. c.reaches_quorum.ensures b h ok ∙ half_is _ _ _ b _ _ (c.ready_members-members.ensures.1 b h ok) (c.ready_seats-seats.ensures.1 b h l)
