use Rattle.board.proofs.OfSettings.{most_is}
use Rattle.board.proofs.settings.most_in_flight.Goals as goal

pub returns : goal.returns
returns c = λ b h. most_is _ b h
