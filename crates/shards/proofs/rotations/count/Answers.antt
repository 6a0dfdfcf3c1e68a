use Rattle.board.proofs.Sections.{rotations, count_is}
use Rattle.shards.proofs.rotations.count.Goals as goal

pub returns : goal.returns
returns c = λ b h. count_is rotations _ b h
