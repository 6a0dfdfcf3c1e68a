use mathlib.Core.Path.{ap, ◌∙◌}
use native.Mathlib.Omega.{arith}
use Rattle.rules.specs.Board.{most_seats}
use Rattle.rules.specs.Snapshot.{seat_words}
use Rattle.tables.specs.Rows.{insert_at}
use Rattle.tables.proofs.Typed.{opened_as}
use Rattle.board.specs.Layout.{seat_width, seat_table}
use Rattle.board.specs.Held.{no_seat}
use Rattle.board.proofs.Widths.{seat_wide}
use Rattle.board.proofs.Fitting.{insert_length, insert_room, set_insert}
use Rattle.reshapes.specs.Changes.{seat_entry}
use Rattle.reshapes.proofs.OfSeats.{no_seat_lem}
use Rattle.reshapes.proofs.seats.open_in.Goals as goal

pub returns : goal.returns
returns c = λ xs e l h.
    let a = c.args in
    let t = insert_at xs a.k no_seat in
    let o = opened_as seat_words seat_width seat_wide most_seats xs _ _ e a.k no_seat no_seat_lem l h c.open_row.ensures in
    c.put_in.ensures t o (insert_room most_seats xs a.k no_seat h l) (omega (arith, insert_length xs a.k no_seat h)) ∙ ap seat_table (set_insert xs a.k no_seat (seat_entry a.q) h)
