-- From the check's answer to an exported step's record; once, for every step.
use mathlib.Core.Path.{◌≡◌}
use mathlib.Core.List.{List, [], ◌∷◌}
use mathlib.Core.Bool.{Bool, true, false, not}
use Prim.Native.Nat.{ℕ}
use borrow.Author.Tests.{not-true, not-false}
use Rattle.types.specs.Answers.{number_of}
use Rattle.types.specs.declared.Outcome.{Outcome}
use Rattle.rules.specs.Board.{Board}
use Rattle.rules.specs.Turns.{Result}
use Rattle.board.specs.Permitted.{not_well_formed}
use Rattle.wellformed.specs.Tells.{Tells}
use Rattle.wellformed.proofs.Told.{not_held}
use Rattle.steps.specs.Inner.{Steps}
use Rattle.steps.proofs.Public.{step_answers, step_refuses}
use Rattle.roster.specs.Exported.{ExportedStep}

module _ {before : List ℕ} {good : Bool} (t : Tells before good) where
  -- the check said no, and nothing was done
  pub export_refuses : {step : Board → Result} {counts : List ℕ} {number : ℕ} {told : Outcome} → not good ≡ true → told ≡ not_well_formed
      → (number ≡ number_of told.answer) × (counts ≡ told.handled ∷ told.draws_used ∷ []) → ExportedStep step before before number counts
  export_refuses {step} {told = told} e f r =
      record { outcome = told; permitted = step_refuses step before told (not_held before good t (not-true good e)) f; answer = r.0; counts = r.1 }

  -- the check said yes, and the inner form did the step
  pub export_answers : {step : Board → Result} {after counts : List ℕ} {number : ℕ} {told : Outcome} → not good ≡ false → Steps step before after told
      → (number ≡ number_of told.answer) × (counts ≡ told.handled ∷ told.draws_used ∷ []) → ExportedStep step before after number counts
  export_answers {step} {after} {told} e s r =
      record { outcome = told; permitted = step_answers step before after told (t.yes (not-false good e)) s; answer = r.0; counts = r.1 }
