-- A step that is one turn: what it tells, and the board that it leaves.
use Prim.Native.Nat.{ℕ, ◌-◌, ◌≤◌}
use mathlib.Core.Path.{◌≡◌, ap}
use mathlib.Core.List.{List}
use native.Mathlib.Omega.{arith}
use lib.ListN.{length, drop, length-drop}
use Rattle.types.specs.declared.Answer.TheVariants as answers
use Rattle.types.specs.declared.Outcome.{Outcome}
use Rattle.rules.specs.Board.{Board}
use Rattle.rules.specs.Turns.{Turn, alone}
use Rattle.board.specs.Held.{Holds}
use Rattle.board.specs.Permitted.{outcome_of}
use Rattle.std.specs.Prelude.{Result, Ok, Err}
use Rattle.types.specs.declared.Answer.{Answer}
use Rattle.pool.specs.declared.Turn as step
use Rattle.pool.specs.Told.{TurnTells, turn_told}

module _ (draws after : List ℕ) (b : Board) (t : Turn) where
  -- as many draws are used as the reader passed
  used : (at : ℕ) → at ≤ length draws → at ≡ length draws - length (drop at draws)
  used at l = omega (arith, length-drop at draws)

  abbrev done : ℕ → ℕ → Outcome
  done n at = record { answer = answers.Done; handled = n; draws_used = at }

  pub turn_alone : (r : Result step.Turn Answer) → TurnTells draws after b t r → turn_told r ≡ outcome_of (alone draws b t)
  unfolding alone
  turn_alone (Ok r) f = rw f.turn (ap (done r.handled) (used r.left.at f.read))
  turn_alone (Err a) f = rw f.0

  pub turn_leaves : (r : Result step.Turn Answer) → TurnTells draws after b t r → Holds after (alone draws b t).board
  unfolding alone
  turn_leaves (Ok r) f = rw f.turn f.holds
  turn_leaves (Err a) f = rw f.0 f.1
