-- What the answer of the seat check says.
use Rattle.std.specs.Prelude.{ℕ, ◌≡◌, List, Bool, true}
use Rattle.rules.specs.Board.{Board}
use Rattle.rules.specs.SeatCheck.{seat_check}
use Rattle.board.specs.Held.{Holds}
use Rattle.wellformed.specs.Tells.{Exactly}

-- the words are those of a board that passes
pub record SeatedWell (ws : List ℕ) : Type 0 where
  pub board : Board
  pub holds : Holds ws board
  pub passes : seat_check board ≡ true

-- r is true exactly if they are
abbrev pub TellsSeats : List ℕ → Bool → Type 0
TellsSeats ws r = Exactly (SeatedWell ws) r
