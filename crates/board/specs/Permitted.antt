-- What the contract of a public function says, at every input.
use Rattle.std.specs.Prelude.{ℕ, ◌≡◌, List, true}
use Rattle.types.specs.declared.Answer.TheVariants.{NotWellFormed}
use Rattle.types.specs.declared.Outcome.{Outcome}
use Rattle.rules.specs.Board.{Board}
use Rattle.rules.specs.WellFormed.{well_formed}
use Rattle.rules.specs.Turns.{Result}
use Rattle.board.specs.Held.{Holds}

-- the words are a well-formed board's
pub record WellHeld (ws : List ℕ) : Type 0 where
  pub board : Board
  pub holds : Holds ws board
  pub good : well_formed board ≡ true

-- what a function that is lent words before returns, r, and leaves in them, after: its answer to a board and the next board; or its refusal
pub data Permitted {R : Type 0} (refusal : R) (answer : Board → R) (next : Board → Board) (before after : List ℕ) (r : R) : Type 0 where
  -- no well-formed board has the words: every word as before
  refused : (WellHeld before → ⊥) → r ≡ refusal → after ≡ before → Permitted refusal answer next before after r
  -- a well-formed board's words: those of the next board
  answered : (b : Board) → Holds before b → well_formed b ≡ true → r ≡ answer b → Holds after (next b) → Permitted refusal answer next before after r

-- 'board not well-formed': 1, nothing handled, nothing drawn
abbrev pub not_well_formed : Outcome
not_well_formed = record { answer = NotWellFormed; handled = 0; draws_used = 0 }

abbrev pub outcome_of : Result → Outcome
outcome_of r = record { answer = r.answer; handled = r.handled; draws_used = r.used }

-- THE RECORD of every public step
abbrev pub PermittedStep : (Board → Result) → List ℕ → List ℕ → Outcome → Type 0
PermittedStep step = Permitted not_well_formed (λ b. outcome_of (step b)) (λ b. (step b).board)
