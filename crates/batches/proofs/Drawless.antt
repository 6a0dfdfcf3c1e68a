-- A step over several shards whose turns read no draws and leave a well-formed board.
use Prim.Native.Nat.{ℕ, ◌+◌, ◌≤◌, ◌<◌}
use mathlib.Core.Path.{◌≡◌}
use mathlib.Core.List.{List, []}
use mathlib.Core.Bool.{true}
use lib.ListN.{length, get_or}
use Rattle.std.specs.Prelude.{Result, Ok, Err}
use Rattle.types.specs.Numbers.{Shard}
use Rattle.types.specs.declared.Answer.{Answer}
use Rattle.types.specs.declared.Answer.TheVariants as answers
use Rattle.rules.specs.Board.{Board}
use Rattle.rules.specs.WellFormed.{well_formed}
use Rattle.rules.specs.Turns.{Turn, batch}
use Rattle.rules.proofs.Turns.{Finishes}
use Rattle.rules.proofs.Draws.{ReadsTurn}
use Rattle.rules.proofs.KeptBoard.{Good, good_of_lem, of_good}
use Rattle.board.specs.Held.{Holds}
use Rattle.pool.specs.declared.Turn as step
use Rattle.steps.specs.Inner.{outcome, Step}
use Rattle.batches.specs.Underway.{Underway}
use Rattle.batches.proofs.Law.{TellsShard, begins, ends}
use Rattle.batches.proofs.Loop.{turn_refused, drawless_done}

module _ (turn : Shard → List ℕ → Board → Turn) (reads : (s : Shard) (c : Board) → ReadsTurn (λ ds. turn s ds c))
    (finishes : (s : Shard) (ds : List ℕ) (c : Board) → Good c → Finishes Good (turn s ds c)) (targets : List Shard) (b : Board) where
  abbrev On : ℕ → ℕ → List ℕ → Type 0
  On i handled now = Underway turn Good targets [] b i handled 0 now

  pub set_out : (now : List ℕ) → Holds now b → well_formed b ≡ true → On 0 0 now
  set_out now h ok = begins turn reads Good (λ c. of_good) targets [] b now h ok (good_of_lem b ok)

  pub all_done : (i handled : ℕ) (now : List ℕ) → On i handled now → length targets ≤ i → Step (λ c. batch turn targets [] b) b now (outcome answers.Done handled 0)
  all_done i handled now u l = ends turn reads Good (λ c. of_good) targets [] b i handled 0 now u l

  module _ (i handled : ℕ) (now after : List ℕ) (u : On i handled now) (l : i < length targets) (r : Result step.Turn Answer) (t : TellsShard turn [] 0 (get_or targets i 0) now after r) where
    pub one_done : (done : step.Turn) → r ≡ Ok done → On (i + 1) (handled + done.handled) after
    one_done done e = drawless_done turn reads Good (λ c. of_good) targets (λ s o. finishes s) b r i handled now after u l t done e

    pub one_refused : (a : Answer) → r ≡ Err a → Step (λ c. batch turn targets [] b) b after (outcome a handled 0)
    one_refused a e = turn_refused turn reads Good (λ c. of_good) targets (λ s o. finishes s) b r [] i handled 0 now after u l t a e
