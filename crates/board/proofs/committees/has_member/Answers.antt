use Rattle.board.proofs.OfCommittees.{members_room}
use Rattle.board.proofs.committees.has_member.Goals as goal

pub returns : goal.returns
returns c = λ b h l. c.contains.ensures _ (c.members.ensures.held b h l) (members_room _ b h c.args.j l)
