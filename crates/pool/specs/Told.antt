-- What the code's answers say of a draw from the pool and of a turn. The draws left are those from the reader on.
use Rattle.std.specs.Prelude as std
use Rattle.std.specs.Prelude.{ℕ, ◌≤◌, ◌<◌, ◌≡◌, List, length, get_or, drop, Result, Some, None, Ok, Err}
use Rattle.std.proofs.Math.Option.{Option, none, some}
use Rattle.types.specs.Numbers.{Id}
use Rattle.rules.specs.Board.{Board, most_machines}
use Rattle.rules.specs.Draws.{Drawn, drew}
use Rattle.rules.specs.Turns.{Turn, finished, refused}
use Rattle.types.specs.declared.Answer.TheVariants as answers
use Rattle.types.specs.declared.Outcome.{Outcome}
use Rattle.types.specs.declared.Answer.{Answer}
use Rattle.sampling.specs.declared.Reader.{Reader}
use Rattle.sampling.specs.declared.DrawError.{DrawError}
use Rattle.sampling.specs.Reads.{no_draw}
use Rattle.board.specs.Held.{Holds, no_machine}
use Rattle.pool.specs.declared.Turn as step

-- a row that is told is one of the table's, whatever the words hold
abbrev pub DrawWithin : Result (std.Option (ℕ × Reader)) DrawError → Type 0
DrawWithin (Ok (Some (i, left))) = i < most_machines
DrawWithin (Ok None) = Unit {0}
DrawWithin (Err e) = Unit {0}

-- a reader's place is within the draws, and what it leaves is what the definitions leave
pub record Found (draws : List ℕ) (b : Board) (d : Drawn (Option Id)) (i : ℕ) (left : Reader) : Type 0 where
  pub within : i < length b.machines
  pub read : left.at ≤ length draws
  pub drawn : d ≡ drew (some (get_or b.machines i no_machine).key) (drop left.at draws)

-- of a draw d from the pool of b, read from `at` on
abbrev pub DrawTells : List ℕ → Board → Drawn (Option Id) → Reader → Result (std.Option (ℕ × Reader)) DrawError → Type 0
DrawTells draws b d at (Ok (Some (i, left))) = Found draws b d i left
DrawTells draws b d at (Ok None) = d ≡ drew none (drop at.at draws)
DrawTells draws b d at (Err e) = d ≡ no_draw e

pub record Finished (draws after : List ℕ) (t : Turn) (n : ℕ) (left : Reader) : Type 0 where
  pub board : Board
  pub read : left.at ≤ length draws
  pub turn : t ≡ finished n (drop left.at draws) board
  pub holds : Holds after board

-- of a turn t on board b, after which the words are `after`; a refusal leaves the board
abbrev pub TurnTells : List ℕ → List ℕ → Board → Turn → Result step.Turn Answer → Type 0
TurnTells draws after b t (Ok r) = Finished draws after t r.handled r.left
TurnTells draws after b t (Err a) = (t ≡ refused a) × Holds after b

-- of a step that is one turn, its draws read from the first on
abbrev pub turn_told : Result step.Turn Answer → Outcome
turn_told (Ok r) = record { answer = answers.Done; handled = r.handled; draws_used = r.left.at }
turn_told (Err a) = record { answer = a; handled = 0; draws_used = 0 }
