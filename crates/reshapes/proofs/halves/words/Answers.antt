use Rattle.reshapes.proofs.OfReshapes.{half_lent}
use Rattle.reshapes.proofs.halves.words.Goals as goal

pub returns-clause-held : goal.returns-clause-held
returns-clause-held c = λ b h l. rw c.half_at.ensures (half_lent _ b h c.args.i l c.args.side)
