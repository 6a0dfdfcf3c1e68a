use Rattle.board.proofs.OfSettings.{epoch_stored}
use Rattle.board.proofs.settings.set_epoch.Goals as goal

pub returns : goal.returns
returns c = λ b h. epoch_stored _ b h _
