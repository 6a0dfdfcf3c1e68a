use lib.ListN.{get_or}
use Rattle.rules.specs.Board.{most_seats}
use Rattle.tables.specs.Rows.{insert_at}
use Rattle.board.specs.Held.{no_reshape}
use Rattle.board.proofs.Fitting.{insert_room}
use Rattle.reshapes.specs.Changes.{seat_entry}
use Rattle.reshapes.proofs.OfReshapes.{seats_lent, seats_back}
use Rattle.reshapes.proofs.seats.open.Goals as goal

pub returns : goal.returns
returns c = λ b h l m n.
    let a = c.args in
    let s = (get_or b.reshapes a.i no_reshape).val.seats in
    seats_back _ b h a.i l (λ t. insert_at t a.k (seat_entry a.q)) _ (c.open_in.ensures s (seats_lent _ b h a.i l) m n) (insert_room most_seats s a.k (seat_entry a.q) n m)
