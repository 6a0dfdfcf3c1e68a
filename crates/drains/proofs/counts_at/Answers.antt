use Rattle.drains.proofs.Drains.{counts_all, counts_of}
use Rattle.drains.proofs.counts_at.Goals as goal

pub returns-in-All : goal.returns-in-All
returns-in-All c = λ b h l m. counts_all _ _ _ (c.at-seat.ensures b h l m) c.in-All.is

pub returns-in-Of : goal.returns-in-Of
returns-in-Of c = λ b h l m. rw c.eq.ensures (counts_of _ _ _ (c.at-seat.ensures b h l m) _ c.in-Of.is)
