use Rattle.board.proofs.OfSettings.{epoch_is}
use Rattle.board.proofs.settings.epoch.Goals as goal

pub returns : goal.returns
returns c = λ b h. epoch_is _ b h
