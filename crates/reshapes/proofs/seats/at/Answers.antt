use lib.ListN.{get_or}
use Rattle.board.specs.Held.{no_reshape}
use Rattle.reshapes.proofs.OfReshapes.{seats_lent, seats_room}
use Rattle.reshapes.proofs.seats.at.Goals as goal

pub returns : goal.returns
returns c = λ b h l m.
    let i = c.args.i in
    c.load_from.ensures (get_or b.reshapes i no_reshape).val.seats (seats_lent _ b h i l) (seats_room _ b h i l) m
