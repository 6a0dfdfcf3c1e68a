use Rattle.board.proofs.OfSettings.{size_is}
use Rattle.board.proofs.settings.shard_size.Goals as goal

pub returns : goal.returns
returns c = λ b h. size_is _ b h
