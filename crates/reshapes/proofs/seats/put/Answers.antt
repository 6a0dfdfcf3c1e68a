use lib.ListN.{get_or, set}
use Rattle.rules.specs.Board.{most_seats}
use Rattle.board.specs.Held.{no_reshape}
use Rattle.board.proofs.Fitting.{set_room}
use Rattle.reshapes.specs.Changes.{seat_entry}
use Rattle.reshapes.proofs.OfReshapes.{seats_lent, seats_back, seats_room}
use Rattle.reshapes.proofs.seats.put.Goals as goal

pub returns : goal.returns
returns c = λ b h l m.
    let a = c.args in
    let s = (get_or b.reshapes a.i no_reshape).val.seats in
    seats_back _ b h a.i l (λ t. set t a.k (seat_entry a.q)) _ (c.put_in.ensures s (seats_lent _ b h a.i l) (seats_room _ b h a.i l) m)
    (set_room most_seats s a.k (seat_entry a.q) (seats_room _ b h a.i l))
