-- Tick, as the code has it: each way out.
use mathlib.Core.Path.{◌≡◌}
use mathlib.Core.List.{List}
use mathlib.Core.Bool.{true, false}
use Prim.Native.Nat.{ℕ, ◌+◌, ◌≤◌, ◌<◌}
use native.Mathlib.Omega.{arith}
use lib.Dec.{eqb}
use Rattle.types.specs.declared.Answer.TheVariants.{Done, LastEpoch}
use Rattle.types.specs.declared.Outcome.{Outcome}
use Rattle.rules.specs.Board.{Board, last_epoch, epoch_of, on_settings}
use Rattle.rules.specs.WellFormed.{well_formed}
use Rattle.rules.specs.Turns.{checked, alone}
use Rattle.rules.specs.Places.{tick}
use Rattle.rules.proofs.Counts.{eqb_apart}
use Rattle.rules.proofs.Tests.{of_eq}
use Rattle.rules.proofs.KeptBoard.{limits, good_of_lem}
use Rattle.board.specs.Held.{Holds}
use Rattle.board.specs.Leaves.{at_epoch}
use Rattle.steps.specs.Inner.{outcome, Step}

module _ (b : Board) (ok : well_formed b ≡ true) (after : List ℕ) (r : Outcome) (e : ℕ) (is : e ≡ epoch_of b) where
  pub at_the_last : last_epoch ≤ e → Holds after b → r ≡ outcome LastEpoch 0 0 → Step tick b after r
  unfolding tick alone checked
  at_the_last l h t =
      let here : eqb (epoch_of b) last_epoch ≡ true = of_eq (epoch_of b) last_epoch (omega (arith, (limits b.settings (good_of_lem b ok).settings).epoch)) in
      record { told = rw (ok, here) t; left = rw (ok, here) h }

  pub to_the_next : e < last_epoch → Holds after (on_settings (at_epoch (e + 1)) b) → r ≡ outcome Done 1 0 → Step tick b after r
  unfolding tick alone checked
  to_the_next l h t =
      let past : eqb (epoch_of b) last_epoch ≡ false = eqb_apart (epoch_of b) last_epoch (λ q. omega arith) in
      record { told = rw (ok, past) t; left = rw (ok, past) (rw is at h) }
