use Rattle.rules.specs.Board.{most_members}
use Rattle.tables.proofs.Ids.{id_at}
use Rattle.board.proofs.OfCommittees.{members_room}
use Rattle.board.proofs.committees.member_at.Goals as goal

pub returns : goal.returns
returns c = λ b h l m. let j = c.args.j in id_at most_members _ _ (c.members.ensures.held b h l) c.args.i m (members_room _ b h j l)
