use Rattle.board.proofs.OfCommittees.{members_lent}
use Rattle.board.proofs.committees.members.Goals as goal

pub returns-clause-held : goal.returns-clause-held
returns-clause-held c = λ b h l. members_lent _ b h c.args.j l
