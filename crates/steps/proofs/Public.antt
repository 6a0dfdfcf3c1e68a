-- From the check and the inner form to the record of the public step; once, for every step.
use mathlib.Core.Path.{◌≡◌, refl, ap, ◌∙◌}
use mathlib.Core.List.{List}
use Prim.Native.Nat.{ℕ}
use lib.ListN.{length}
use Rattle.types.specs.declared.Outcome.{Outcome}
use Rattle.rules.specs.Board.{Board}
use Rattle.rules.specs.Turns.{Result}
use Rattle.board.specs.Layout.{board_size}
use Rattle.board.specs.Permitted.{WellHeld, refused, answered, PermittedStep, not_well_formed}
use Rattle.board.proofs.Widths.{board_wide}
use Rattle.steps.specs.Inner.{Steps}

-- words that hold a board are as many as the layout has
pub held_wide : (ws : List ℕ) → WellHeld ws → length ws ≡ board_size
held_wide ws w = ap length w.holds.words ∙ board_wide w.board

-- the check said yes, and the inner form did the step
pub step_answers : (step : Board → Result) (before after : List ℕ) (r : Outcome) → WellHeld before → Steps step before after r → PermittedStep step before after r
step_answers step before after r w f = let s = f w.board w.holds w.good in answered w.board w.holds w.good s.told s.left

-- the check said no, and nothing was done
pub step_refuses : (step : Board → Result) (before : List ℕ) (r : Outcome) → (WellHeld before → ⊥) → r ≡ not_well_formed → PermittedStep step before before r
step_refuses step before r n e = refused n e refl
