-- What an exported function says: numbers and lent words alone.
use Rattle.std.specs.Prelude.{◌≡◌, List, [], ◌∷◌, ℕ}
use Rattle.types.specs.Answers.{number_of}
use Rattle.types.specs.declared.Answer.{Answer}
use Rattle.types.specs.declared.Outcome.{Outcome}
use Rattle.rules.specs.Board.{Board}
use Rattle.rules.specs.Turns.{Result}
use Rattle.board.specs.Permitted.{PermittedStep}
use Rattle.steps.specs.Inner.{Steps}
use Rattle.snapshot.specs.Written.{Written}
use Rattle.snapshot.specs.ReadAs.{ReadAs}

-- a step: the answer's number; handled and draws used in `results`; the board's words
pub record ExportedStep (step : Board → Result) (before after : List ℕ) (number : ℕ) (results : List ℕ) : Type 0 where
  pub outcome : Outcome
  pub permitted : PermittedStep step before after outcome
  pub answer : number ≡ number_of outcome.answer
  pub counts : results ≡ outcome.handled ∷ outcome.draws_used ∷ []

-- all that a call may give and leave is what the step may
abbrev pub Makes : (Board → Result) → List ℕ → (Outcome → List ℕ → Type 0) → Type 0
Makes step before Gives = (told : Outcome) (after : List ℕ) → Gives told after → Steps step before after told

-- a check: 1 exactly if the words are good, else 0
pub record ExportedCheck (Good : List ℕ → Type 0) (ws : List ℕ) (number : ℕ) : Type 0 where
  pub yes : number ≡ 1 → Good ws
  pub held : Good ws → number ≡ 1
  pub bit : (number ≡ 1 → ⊥) → number ≡ 0

-- a snapshot written: the answer's number, every lent byte and the length
pub record ExportedWrite (ws before : List ℕ) (long : ℕ) (after : List ℕ) (longer number : ℕ) : Type 0 where
  pub answer : Answer
  pub written : Written ws before long after longer answer
  pub told : number ≡ number_of answer

-- a snapshot read: the answer's number and every lent word
pub record ExportedRead (bytes before after : List ℕ) (number : ℕ) : Type 0 where
  pub answer : Answer
  pub read : ReadAs bytes before after answer
  pub told : number ≡ number_of answer
