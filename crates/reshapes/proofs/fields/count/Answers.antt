use Rattle.board.proofs.Sections.{reshapes, count_is}
use Rattle.reshapes.proofs.fields.count.Goals as goal

pub returns : goal.returns
returns c = λ b h. count_is reshapes _ b h
