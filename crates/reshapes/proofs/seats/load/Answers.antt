use Rattle.reshapes.proofs.OfSeats.{seat_back_of}
use Rattle.reshapes.proofs.seats.load.Goals as goal

pub returns : goal.returns
returns c = λ e q. seat_back_of _ e q
