use mathlib.Core.List.{[]}
use native.Mathlib.Omega.{arith}
use lib.ListN.{get_or}
use Rattle.rules.specs.Board.{most_seats}
use Rattle.rules.specs.Snapshot.{seat_words}
use Rattle.tables.proofs.Typed.{emptied_as}
use Rattle.board.specs.Layout.{seat_width}
use Rattle.board.specs.Held.{no_reshape}
use Rattle.board.proofs.Widths.{seat_wide}
use Rattle.reshapes.proofs.OfReshapes.{seats_lent, seats_back, seats_room}
use Rattle.reshapes.proofs.seats.clear.Goals as goal

pub returns : goal.returns
returns c = λ b h l.
    let i = c.args.i in
    seats_back _ b h i l (λ t. []) _ (emptied_as seat_words seat_width seat_wide most_seats (get_or b.reshapes i no_reshape).val.seats _ _ (seats_lent _ b h i l) (seats_room _ b h i l) c.empty.ensures) (omega arith)
