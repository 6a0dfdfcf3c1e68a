-- A split that awaits its cohort, as a row of the table.
use Rattle.std.specs.Prelude.{ℕ, ◌<◌, ◌≡◌, true, false, length, get_or, Option, MatchOption}
use Rattle.rules.specs.Table.{holds_at}
use Rattle.rules.specs.Board.{Board}
use Rattle.rules.specs.Reshapes.{awaits_cohort}
use Rattle.board.specs.Held.{no_reshape}

-- i is the row of target t's split, which awaits its cohort
pub record Awaits (t : ℕ) (b : Board) (i : ℕ) : Type 0 where
  pub inside : i < length b.reshapes
  pub named : (get_or b.reshapes i no_reshape).key ≡ t
  pub awaits : awaits_cohort (get_or b.reshapes i no_reshape).val ≡ true

-- r is that row; or no such split stands
abbrev pub Awaiting : ℕ → Board → Option ℕ → Type 0
Awaiting t b r = MatchOption r (holds_at t awaits_cohort b.reshapes ≡ false) (Awaits t b)
