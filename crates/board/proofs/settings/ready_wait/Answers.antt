use Rattle.board.proofs.OfSettings.{wait_is}
use Rattle.board.proofs.settings.ready_wait.Goals as goal

pub returns : goal.returns
returns c = λ b h. wait_is _ b h
