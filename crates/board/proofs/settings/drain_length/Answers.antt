use Rattle.board.proofs.OfSettings.{drain_is}
use Rattle.board.proofs.settings.drain_length.Goals as goal

pub returns : goal.returns
returns c = λ b h. drain_is _ b h
