-- The code's answers to a draw and to a shuffle, and the list that a shuffle leaves wherever it stops.
use Rattle.std.specs.Prelude.{ℕ, zero, suc, ◌-◌, ◌≡◌, ◌≤◌, List, [], ◌∷◌, cond, leb, length, drop, Result, Ok, Err}
use Rattle.types.specs.declared.Answer.{Answer}
use Rattle.types.specs.declared.Answer.TheVariants as answers
use Rattle.rules.specs.Draws.{Drawn, drew, missing, too_large, exchange}
use Rattle.sampling.specs.declared.Reader.{Reader}
use Rattle.sampling.specs.declared.DrawError.{DrawError}
use Rattle.sampling.specs.declared.DrawError.TheVariants as errors

-- why a draw gives nothing, as the definitions have it and as a step answers
abbrev pub no_draw : {A : Type 0} → DrawError → Drawn A
no_draw errors.Missing = missing
no_draw errors.TooLarge = too_large

abbrev pub answer_to : DrawError → Answer
answer_to errors.Missing = answers.DrawMissing
answer_to errors.TooLarge = answers.DrawTooLarge

-- a draw gave x; the reader's place is within the draws, and those from it on are left
pub record Read {A : Type 0} (draws : List ℕ) (d : Drawn A) (x : A) (left : Reader) : Type 0 where
  pub within : left.at ≤ length draws
  pub drew : d ≡ drew x (drop left.at draws)

abbrev pub IndexTells : List ℕ → Drawn ℕ → Result (ℕ × Reader) DrawError → Type 0
IndexTells draws d (Ok (k, left)) = Read draws d k left
IndexTells draws d (Err e) = d ≡ no_draw e

-- of a shuffle that leaves the list m
abbrev pub ShuffleTells : List ℕ → Drawn (List ℕ) → List ℕ → Result Reader DrawError → Type 0
ShuffleTells draws d m (Ok left) = Read draws d m left
ShuffleTells draws d m (Err e) = d ≡ no_draw e

-- the list as far as a shuffle comes: a missing or too large draw leaves it there
unfoldable pub mixed_from : ℕ → List ℕ → List ℕ → List ℕ
mixed_from zero l draws = l
mixed_from (suc i) l [] = l
mixed_from (suc i) l (j ∷ draws) = cond (leb j (suc i)) (mixed_from i (exchange (suc i) j l) draws) l

unfoldable pub mixed : List ℕ → List ℕ → List ℕ
mixed l draws = mixed_from (length l - 1) l draws
