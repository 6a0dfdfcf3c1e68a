use Rattle.reshapes.proofs.OfSeats.{seat_lent}
use Rattle.reshapes.proofs.seats.load_from.Goals as goal

pub returns : goal.returns
returns c = λ xs e l h. c.load.ensures _ (seat_lent xs _ e l c.args.k h)
