use mathlib.Core.List.{[]}
use lib.ListN.{get_or}
use Rattle.rules.specs.Board.{most_seats}
use Rattle.rules.specs.Snapshot.{seat_words}
use Rattle.tables.specs.Rows.{key_of}
use Rattle.tables.proofs.Typed.{found_as}
use Rattle.board.specs.Layout.{seat_width}
use Rattle.board.specs.Held.{no_reshape}
use Rattle.board.proofs.Widths.{seat_wide}
use Rattle.reshapes.proofs.OfReshapes.{seats_lent, seats_room}
use Rattle.reshapes.proofs.OfSeats.{seat_key}
use Rattle.reshapes.proofs.seats.find.Goals as goal

pub returns-clause-found : goal.returns-clause-found
returns-clause-found c = λ b h l r.
    let i = c.args.i in
    found_as seat_words seat_width seat_wide most_seats (get_or b.reshapes i no_reshape).val.seats _ [] (seats_lent _ b h i l) key_of seat_key _ _ (seats_room _ b h i l) r c.find_row.ensures.found
