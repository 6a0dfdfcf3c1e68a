use Rattle.reshapes.proofs.OfReshapes.{seats_count}
use Rattle.reshapes.proofs.seats.count.Goals as goal

pub returns : goal.returns
returns c = λ b h l. seats_count _ b h c.args.i l
