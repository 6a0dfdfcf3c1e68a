-- Leave, as the code has it: each way out.
use Prim.Native.Nat.{ℕ, ◌<◌}
use mathlib.Core.Path.{◌≡◌, ◌∙◌}
use mathlib.Core.List.{List}
use mathlib.Core.Bool.{true}
use mathlib.Core.Option.{none}
use Rattle.std.specs.Prelude.{Result}
use lib.ListN.{length, get_or}
use Rattle.types.specs.Numbers.{Id}
use Rattle.types.specs.declared.Answer.TheVariants.{NoRecord}
use Rattle.types.specs.declared.Answer.{Answer}
use Rattle.rules.specs.Table.{at}
use Rattle.types.specs.declared.Outcome.{Outcome}
use Rattle.rules.specs.Board.{Board}
use Rattle.rules.specs.WellFormed.{well_formed}
use Rattle.rules.specs.Turns.{checked, alone}
use Rattle.rules.specs.Places.{leave_from, leave_turn, leave}
use Rattle.tables.proofs.Keys.{at_is}
use Rattle.board.specs.Held.{Holds, no_machine}
use Rattle.board.proofs.Keyed.{machines_rise}
use Rattle.steps.specs.Inner.{outcome, Step}
use Rattle.pool.specs.declared.Turn.{Turn}
use Rattle.pool.specs.Told.{TurnTells, turn_told}
use Rattle.pool.proofs.Alone.{turn_alone, turn_leaves}

module _ (b : Board) (ok : well_formed b ≡ true) (draws after : List ℕ) (r : Outcome) (x : Id) where
  pub no_record : at x b.machines ≡ none → Holds after b → r ≡ outcome NoRecord 0 0 → Step (leave x draws) b after r
  unfolding leave leave_turn alone checked
  no_record n h e = record { told = rw (ok, leave_turn, n) e; left = rw (ok, leave_turn, n) h }

  pub turned : (i : ℕ) → i < length b.machines → (get_or b.machines i no_machine).key ≡ x → (t : Result Turn Answer) → TurnTells draws after b (leave_from (get_or b.machines i no_machine).val (get_or b.machines i no_machine).key draws b) t → r ≡ turn_told t
      → Step (leave x draws) b after r
  unfolding leave leave_turn checked
  turned i l k t g e =
      let there = at_is b.machines (machines_rise b ok) x i no_machine l k in
      let q = rw k at g in
      record { told = rw (ok, leave_turn, there) (e ∙ turn_alone draws after b _ t q); left = rw (ok, leave_turn, there) (turn_leaves draws after b _ t q) }
