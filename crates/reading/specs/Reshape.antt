-- A reshape in a snapshot's words after the first nine: its seats, and the ids of its halves.
use Rattle.std.specs.Prelude.{ℕ, ◌+◌, ◌≡◌, List, ◌++◌, true, length, drop, Option, Some, IfSome}
use Rattle.rules.specs.Table.{Table}
use Rattle.rules.specs.Board.{Seat, most_seats, most_half}
use Rattle.rules.specs.WellFormed.{good_table, good_seat}
use Rattle.rules.specs.Snapshot.{section, seat_words}
use Rattle.word_tests.specs.Tests.{at}
use Rattle.row_tests.specs.Rows.{scheduled_ok}
use Rattle.id_lists.specs.Told.{IdsAt}

-- a count and that many good seats from a up to e
pub record SeatsAt (target : ℕ) (ws : List ℕ) (a e : ℕ) : Type 0 where
  pub seats : Table Seat
  pub good : good_table most_seats (good_seat target) seats ≡ true
  pub words : drop a ws ≡ section seat_words seats ++ drop e ws
  pub next : e ≡ a + length (section seat_words seats)

-- r is where they end, if there are any
pub record TellsSeats (target : ℕ) (ws : List ℕ) (a : ℕ) (r : Option ℕ) : Type 0 where
  pub yes : IfSome r (SeatsAt target ws a)
  pub held : (e : ℕ) → SeatsAt target ws a e → r ≡ Some e

-- the seats and the halves from a up to e, as the first words allow them
pub record ListsAt (head ws : List ℕ) (a e : ℕ) : Type 0 where
  pub halves : ℕ
  pub middle : ℕ
  pub seated : SeatsAt (at head 0) ws a halves
  pub left : IdsAt most_half ws halves middle
  pub right : IdsAt most_half ws middle e
  pub scheduled : scheduled_ok (at head 1) (at head 5) (length left.ids) (length right.ids) ≡ true

-- r is where they end, if there are such
pub record TellsLists (head ws : List ℕ) (a : ℕ) (r : Option ℕ) : Type 0 where
  pub yes : IfSome r (ListsAt head ws a)
  pub held : (e : ℕ) → ListsAt head ws a e → r ≡ Some e
