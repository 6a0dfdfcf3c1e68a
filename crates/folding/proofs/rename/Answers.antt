use Rattle.folding.proofs.Rows.{renamed}
use Rattle.folding.proofs.rename.Goals as goal

pub returns : goal.returns
returns c = λ b h l. renamed _ b _ _ l (c.clear_members.ensures b h l)
