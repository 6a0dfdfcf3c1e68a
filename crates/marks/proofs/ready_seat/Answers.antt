use Rattle.marks.proofs.Readies.{seat_made}
use Rattle.marks.proofs.ready_seat.Goals as goal

pub returns : goal.returns
returns c = λ b h l s. seat_made b _ _ _ _ (c.at-seat.ensures b h l s) (c.put.ensures b h l s)
