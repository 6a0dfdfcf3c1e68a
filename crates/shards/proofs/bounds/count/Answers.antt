use Rattle.board.proofs.Sections.{bounds, count_is}
use Rattle.shards.proofs.bounds.count.Goals as goal

pub returns : goal.returns
returns c = λ b h. count_is bounds _ b h
