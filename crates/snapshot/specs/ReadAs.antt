-- What a read leaves: the contract for bytes to lent words.
use Rattle.std.specs.Prelude.{ℕ, ◌<◌, ◌≤◌, ◌≡◌, List, ◌++◌, length, drop}
use Rattle.std.proofs.Math.Option.{none, some}
use Rattle.types.specs.declared.Answer.{Answer}
use Rattle.types.specs.declared.Answer.TheVariants.{Done, NoRoom, NotASnapshot}
use Rattle.rules.specs.Board.{Board}
use Rattle.rules.specs.Snapshot.{read_snapshot}
use Rattle.board.specs.Layout.{board_size, encode}

-- the answer r and the words after, of any bytes and words before
pub data ReadAs (bytes before after : List ℕ) (r : Answer) : Type 0 where
  -- 13: no word
  not_snapshot : read_snapshot bytes ≡ none → r ≡ NotASnapshot → after ≡ before → ReadAs bytes before after r
  -- 11: no word
  too_short : (b : Board) → read_snapshot bytes ≡ some b → length before < board_size → r ≡ NoRoom → after ≡ before → ReadAs bytes before after r
  -- 0: the board's words; those past them as before
  read_as : (b : Board) → read_snapshot bytes ≡ some b → board_size ≤ length before → r ≡ Done → after ≡ encode b ++ drop board_size before → ReadAs bytes before after r
