-- What a step's inner form says: of every well-formed board that the words hold.
use Rattle.std.specs.Prelude as std
use Rattle.std.specs.Prelude.{◌≡◌, List, true, ℕ, Ok, Err}
use Rattle.types.specs.declared.Answer.{Answer}
use Rattle.types.specs.declared.Outcome.{Outcome}
use Rattle.rules.specs.Board.{Board}
use Rattle.rules.specs.WellFormed.{well_formed}
use Rattle.rules.specs.Turns.{Result}
use Rattle.board.specs.Held.{Holds}
use Rattle.board.specs.Permitted.{outcome_of}

abbrev pub outcome : Answer → ℕ → ℕ → Outcome
outcome answer handled used = record { answer = answer; handled = handled; draws_used = used }

-- an outcome stands; an answer refuses
abbrev pub step_told : std.Result Outcome Answer → Outcome
step_told (Ok o) = o
step_told (Err a) = outcome a 0 0

pub record Step (step : Board → Result) (b : Board) (after : List ℕ) (r : Outcome) : Type 0 where
  pub told : r ≡ outcome_of (step b)
  pub left : Holds after (step b).board

abbrev pub Steps : (Board → Result) → List ℕ → List ℕ → Outcome → Type 0
Steps step before after r = (b : Board) → Holds before b → well_formed b ≡ true → Step step b after r
