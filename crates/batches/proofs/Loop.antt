-- The law of a step over several shards, as a loop of the code uses it: the turn's answer in hand, by cases.
use Prim.Native.Nat.{ℕ, ◌+◌, ◌≤◌, ◌<◌}
use mathlib.Core.Path.{◌≡◌, refl}
use mathlib.Core.List.{List, []}
use mathlib.Core.Bool.{true}
use native.Mathlib.Omega.{arith}
use native.Mathlib.Numerals.{add-one}
use lib.ListN.{length, get_or}
use Rattle.std.specs.Prelude.{Result, Ok, Err}
use Rattle.types.specs.Numbers.{Shard}
use Rattle.types.specs.declared.Answer.{Answer}
use Rattle.rules.specs.Board.{Board}
use Rattle.rules.specs.WellFormed.{well_formed}
use Rattle.rules.specs.Turns.{Turn, batch}
use Rattle.rules.proofs.Counts.{occ, occ_get_d}
use Rattle.rules.proofs.Turns.{Finishes}
use Rattle.rules.proofs.Draws.{ReadsTurn}
use Rattle.pool.specs.declared.Turn as step
use Rattle.steps.specs.Inner.{outcome, Step}
use Rattle.batches.specs.Underway.{Underway}
use Rattle.batches.proofs.Law.{TellsShard, goes_on_lem, stops}

module _ (turn : Shard → List ℕ → Board → Turn) (reads : (s : Shard) (c : Board) → ReadsTurn (λ ds. turn s ds c)) (Keeps : Board → Type 0)
    (good : (c : Board) → Keeps c → well_formed c ≡ true) (shards : List Shard)
    (keeps : (s : Shard) → 1 ≤ occ s shards → (ds : List ℕ) (c : Board) → Keeps c → Finishes Keeps (turn s ds c)) (b : Board) (r : Result step.Turn Answer) where
  module _ (draws : List ℕ) (i handled at : ℕ) (now after : List ℕ) (u : Underway turn Keeps shards draws b i handled at now) (l : i < length shards)
      (t : TellsShard turn draws at (get_or shards i 0) now after r) where
    pub turn_done : (done : step.Turn) → r ≡ Ok done → Underway turn Keeps shards draws b (i + 1) (handled + done.handled) done.left.at after
    turn_done done e = rw (add-one i) (goes_on_lem turn reads Keeps good shards draws b i handled at now after u l _ refl done.handled done.left (rw e at t) (keeps _ (occ_get_d shards i l) _ _ u.kept))

    pub turn_refused : (a : Answer) → r ≡ Err a → Step (λ c. batch turn shards draws b) b after (outcome a handled at)
    turn_refused a e = stops turn reads Keeps good shards draws b i handled at now after u l _ refl a (rw e at t)

  -- where no draws are lent, none are read
  module _ (i handled : ℕ) (now after : List ℕ) (u : Underway turn Keeps shards [] b i handled 0 now) (l : i < length shards)
      (t : TellsShard turn [] 0 (get_or shards i 0) now after r) where
    pub drawless_done : (done : step.Turn) → r ≡ Ok done → Underway turn Keeps shards [] b (i + 1) (handled + done.handled) 0 after
    drawless_done done e =
        let f : TellsShard turn [] 0 (get_or shards i 0) now after (Ok done) = rw e at t in
        let z : done.left.at ≡ 0 = omega (arith, (f u.board u.holds (good u.board u.kept)).read) in
        rw z at (turn_done [] i handled 0 now after u l t done e)
