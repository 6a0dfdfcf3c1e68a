-- What one call that reads, steps and writes leaves.
use Rattle.std.specs.Prelude.{ℕ, ◌<◌, ◌≤◌, ◌≡◌, List, [], ◌∷◌, ◌++◌, length, drop}
use Rattle.std.proofs.Math.Option.{Option, none, some}
use Rattle.types.specs.Answers.{number_of}
use Rattle.types.specs.declared.Answer.{Answer}
use Rattle.types.specs.declared.Answer.TheVariants.{Done, NoRoom}
use Rattle.rules.specs.Board.{Board}
use Rattle.rules.specs.Turns.{Result}
use Rattle.rules.specs.Calls.{Call, answer_to}
use Rattle.rules.specs.Snapshot.{snapshot_of, read_snapshot}
use Rattle.board.specs.Held.{Holds}
use Rattle.board.specs.Layout.{board_size, encode}
use Rattle.snapshot.specs.ReadAs.{ReadAs}

-- the most bytes that a snapshot has
abbrev pub most_bytes : ℕ
most_bytes = 46816

-- the answer to numbers that ask for no step
abbrev pub no_such_step : ℕ
no_such_step = 15

-- a step's result told: its number, the bytes of its board's snapshot, and the counts with their length; the bytes past the snapshot as before
pub record ToldAs (r : Result) (bytes bytes' counts' : List ℕ) (number : ℕ) : Type 0 where
  pub answer : number ≡ number_of r.answer
  pub written : bytes' ≡ snapshot_of r.board ++ drop (length (snapshot_of r.board)) bytes
  pub counts : counts' ≡ r.handled ∷ r.used ∷ length (snapshot_of r.board) ∷ []

-- the same, of words that are the board's alone
pub record StepTold (r : Result) (board' bytes bytes' counts' : List ℕ) (number : ℕ) : Type 0 where
  pub told : ToldAs r bytes bytes' counts' number
  pub held : Holds board' r.board

-- what is left of lent words, bytes and counts, and the number
pub data Applied (asked : Option Call) (snapshot board bytes counts board' bytes' counts' : List ℕ) (number : ℕ) : Type 0 where
  -- 15: no word and no byte
  no_step : asked ≡ none → number ≡ no_such_step → board' ≡ board → bytes' ≡ bytes → counts' ≡ counts → Applied asked snapshot board bytes counts board' bytes' counts' number
  -- 11: too few bytes for any snapshot; no word and no byte
  no_bytes : (c : Call) → asked ≡ some c → length bytes < most_bytes → number ≡ number_of NoRoom → board' ≡ board → bytes' ≡ bytes → counts' ≡ counts
      → Applied asked snapshot board bytes counts board' bytes' counts' number
  -- the read's refusal; no word and no byte
  not_read : (c : Call) (r : Answer) → asked ≡ some c → most_bytes ≤ length bytes → ReadAs snapshot board board' r → (r ≡ Done → ⊥) → number ≡ number_of r → bytes' ≡ bytes
      → counts' ≡ counts → Applied asked snapshot board bytes counts board' bytes' counts' number
  -- the step's answer: the words of the next board, those past them as before, and the next snapshot
  applied : (c : Call) (b : Board) → asked ≡ some c → most_bytes ≤ length bytes → read_snapshot snapshot ≡ some b → board_size ≤ length board
      → ToldAs (answer_to c b) bytes bytes' counts' number → board' ≡ encode (answer_to c b).board ++ drop board_size board
      → Applied asked snapshot board bytes counts board' bytes' counts' number
