use Rattle.board.proofs.Sections.{machines, count_is}
use Rattle.board.proofs.machines.count.Goals as goal

pub returns : goal.returns
returns c = λ b h. count_is machines _ b h
