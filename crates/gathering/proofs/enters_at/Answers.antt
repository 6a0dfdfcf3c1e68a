use Rattle.gathering.proofs.Gathers.{entrant_is}
use Rattle.gathering.proofs.enters_at.Goals as goal

pub returns : goal.returns
returns c = λ b h l. rw (c.eq.ensures, c.eq-2.ensures) (entrant_is _ _ _ _ (c.at-r.ensures b h l))
