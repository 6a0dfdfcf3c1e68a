use lib.ListN.{get_or}
use Rattle.rules.specs.Board.{most_seats}
use Rattle.rules.specs.Snapshot.{seat_words}
use Rattle.tables.specs.Rows.{remove_at}
use Rattle.tables.proofs.Typed.{removed_as}
use Rattle.board.specs.Layout.{seat_width}
use Rattle.board.specs.Held.{no_reshape}
use Rattle.board.proofs.Widths.{seat_wide}
use Rattle.board.proofs.Fitting.{remove_room}
use Rattle.reshapes.proofs.OfReshapes.{seats_lent, seats_back, seats_room}
use Rattle.reshapes.proofs.seats.close.Goals as goal

pub returns : goal.returns
returns c = λ b h l m.
    let a = c.args in
    let s = (get_or b.reshapes a.i no_reshape).val.seats in
    let n = seats_room _ b h a.i l in
    seats_back _ b h a.i l (λ t. remove_at t a.k) _ (removed_as seat_words seat_width seat_wide most_seats s _ _ (seats_lent _ b h a.i l) a.k n m c.remove_row.ensures)
    (remove_room most_seats s a.k m n)
