-- What a write leaves.
use Rattle.std.specs.Prelude.{ℕ, ◌<◌, ◌≤◌, ◌≡◌, List, ◌++◌, true, length, drop, Result, Ok, Err}
use Rattle.types.specs.declared.Answer.{Answer}
use Rattle.types.specs.declared.Answer.TheVariants.{Done, NotWellFormed, NoRoom}
use Rattle.rules.specs.Board.{Board}
use Rattle.rules.specs.WellFormed.{well_formed}
use Rattle.rules.specs.Snapshot.{snapshot_of}
use Rattle.board.specs.Held.{Holds}
use Rattle.board.specs.Permitted.{WellHeld}

-- the answer r, the bytes and the length, of lent words, bytes before and a length before
pub data Written (ws before : List ℕ) (long : ℕ) (after : List ℕ) (longer : ℕ) (r : Answer) : Type 0 where
  -- 1: no byte and not the length
  not_board : (WellHeld ws → ⊥) → r ≡ NotWellFormed → after ≡ before → longer ≡ long → Written ws before long after longer r
  -- 11: no byte and not the length
  no_room : (b : Board) → Holds ws b → well_formed b ≡ true → length before < length (snapshot_of b) → r ≡ NoRoom → after ≡ before → longer ≡ long
      → Written ws before long after longer r
  -- 0: the snapshot and its length; the bytes past it as before
  written : (b : Board) → Holds ws b → well_formed b ≡ true → length (snapshot_of b) ≤ length before → r ≡ Done
      → after ≡ snapshot_of b ++ drop (length (snapshot_of b)) before → longer ≡ length (snapshot_of b) → Written ws before long after longer r

-- what a write by a result answers, and the length beside
abbrev pub answer_of : {A : Type 0} → Result A Answer → Answer
answer_of (Ok x) = Done
answer_of (Err a) = a

abbrev pub length_of : ℕ → Result ℕ Answer → ℕ
length_of long (Ok n) = n
length_of long (Err a) = long

-- the same of the result r, whatever the length before
abbrev pub WrittenAs : List ℕ → List ℕ → List ℕ → Result ℕ Answer → Type 0
WrittenAs ws before after r = (long : ℕ) → Written ws before long after (length_of long r) (answer_of r)
