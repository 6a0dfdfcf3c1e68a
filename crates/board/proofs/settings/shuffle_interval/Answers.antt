use Rattle.board.proofs.OfSettings.{interval_is}
use Rattle.board.proofs.settings.shuffle_interval.Goals as goal

pub returns : goal.returns
returns c = λ b h. interval_is _ b h
