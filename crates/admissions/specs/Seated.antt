-- A reshape admitted, and the seats in its row.
use Rattle.std.specs.Prelude.{ℕ}
use Rattle.types.specs.Numbers.{Shard}
use Rattle.rules.specs.Table.{Table, entry}
use Rattle.rules.specs.Board.{Kind, Seat, Board, on_reshapes}
use Rattle.rules.specs.Moves.{with_seats}
use Rattle.rules.specs.Reshapes.{new_reshape}
use Rattle.tables.specs.Rows.{key_of, place_of, insert_at}
use Rattle.board.specs.Held.{no_reshape}
use Rattle.board.specs.Leaves.{change_at}

-- the row of the target's reshape, or where it goes
abbrev pub row_for : Shard → Board → ℕ
row_for t b = place_of key_of t b.reshapes

-- a new reshape of the target, in a row more
abbrev pub opened : Kind → Shard → Table Seat → Board → Board
opened k t seats b = on_reshapes (λ rows. insert_at rows (row_for t b) (entry t (new_reshape k seats b))) b

-- the seats of the reshape at i replaced
abbrev pub with_seats_at : ℕ → Table Seat → Board → Board
with_seats_at i seats b = on_reshapes (change_at no_reshape i (with_seats (λ _. seats))) b
