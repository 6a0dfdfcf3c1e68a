use Rattle.board.proofs.Sections.{committees, count_is}
use Rattle.board.proofs.committees.count.Goals as goal

pub returns : goal.returns
returns c = λ b h. count_is committees _ b h
