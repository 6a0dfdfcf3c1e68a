-- A merge's turn, as the code has it: each way out; and the turns in a row.
use Prim.Native.Nat.{ℕ, ◌+◌, ◌≤◌, ◌<◌}
use mathlib.Core.Path.{◌≡◌, ◌∙◌}
use mathlib.Core.List.{List, []}
use mathlib.Core.Option.{none, some}
use mathlib.Core.Bool.{true, false}
use native.Mathlib.Omega.{arith}
use lib.Dec.{leb}
use lib.ListN.{length, get_or}
use Rattle.std.specs.Prelude.{Result, Ok, Err}
use Rattle.types.specs.Numbers.{Shard}
use Rattle.types.specs.Shards.{quorum}
use Rattle.types.specs.declared.Answer.{Answer}
use Rattle.types.specs.declared.Answer.TheVariants as answers
use Rattle.types.specs.declared.Outcome.{Outcome}
use Rattle.rules.specs.Table.{at, count_where}
use Rattle.rules.specs.Board.{Reshape, Board, size_of}
use Rattle.rules.specs.WellFormed.{well_formed}
use Rattle.rules.specs.Turns.{Turn, finished, batch}
use Rattle.rules.specs.Schedule.{unscheduled, merge_gate, schedule_merge, schedule_merges}
use Rattle.rules.proofs.KeptBoard.{Good, good_of_lem, of_good}
use Rattle.rules.proofs.KeptSchedule.{merge_finishes}
use Rattle.rules.proofs.Draws.{schedule_merge_reads}
use Rattle.sampling.specs.declared.Reader.{Reader}
use Rattle.board.specs.Held.{Holds}
use Rattle.steps.specs.Inner.{outcome, Step}
use Rattle.pool.specs.Told.{Finished}
use Rattle.pool.specs.declared.Turn as step
use Rattle.batches.specs.declared.Which.TheVariants.{MergesToSchedule}
use Rattle.batches.specs.Targets.{targets_of}
use Rattle.batches.specs.Underway.{Underway}
use Rattle.batches.proofs.Law.{TellsShard, begins, ends}
use Rattle.batches.proofs.Loop.{turn_refused, drawless_done}
use Rattle.drains.specs.declared.Plan.{Plan}
use Rattle.drains.specs.Plans.{plan_of}
use Rattle.drains.proofs.Drains.{planned, drain_planned}

module _ (t : Shard) (draws : List ℕ) (b : Board) where
  pub merge_none : at t b.reshapes ≡ none → schedule_merge t draws b ≡ finished 0 draws b
  unfolding schedule_merge
  merge_none n = rw (n, schedule_merge)

  module _ (r : Reshape) (e : at t b.reshapes ≡ some r) where
    pub merge_shut : merge_gate r b ≡ false → schedule_merge t draws b ≡ finished 0 draws b
    unfolding schedule_merge
    merge_shut n = rw (e, schedule_merge, n)

    pub merge_open : merge_gate r b ≡ true → (p : Plan) → p ≡ plan_of t r b → schedule_merge t draws b ≡ planned t r [] [] draws b p
    unfolding schedule_merge
    merge_open y p q = rw (e, schedule_merge, y) (drain_planned t r [] [] draws b ∙ rw q)

pub gate_is : (r : Reshape) (b : Board) (ready : ℕ) → ready ≡ count_where (λ q. q.ready) r.seats → leb (quorum (size_of b)) ready ≡ merge_gate r b
unfolding merge_gate
gate_is r b ready e = rw e

-- a turn that reads no draws
pub turn_told : (at : Reader) → at.at ≡ 0 → (after : List ℕ) (n : ℕ) (t : Turn) (c : Board) → t ≡ finished n [] c → Holds after c → Finished [] after t n at
turn_told at z after n t c e h = record { board = c; read = omega arith; turn = rw z e; holds = h }

-- ---- the turns in a row

module _ (targets : List Shard) (b : Board) where
  abbrev pub Run : ℕ → ℕ → List ℕ → Type 0
  Run i handled now = Underway schedule_merge Good targets [] b i handled 0 now

  module _ (i handled : ℕ) (now after : List ℕ) (u : Run i handled now) (l : i < length targets) (r : Result step.Turn Answer) (t : TellsShard schedule_merge [] 0 (get_or targets i 0) now after r) where
    pub run_on : (done : step.Turn) → r ≡ Ok done → Run (i + 1) (handled + done.handled) after
    run_on done e = drawless_done schedule_merge schedule_merge_reads Good (λ c k. of_good k) targets (λ s o. merge_finishes s) b r i handled now after u l t done e

    pub run_stops : (a : Answer) → r ≡ Err a → Step (λ c. batch schedule_merge targets [] b) b after (outcome a handled 0)
    run_stops a e = turn_refused schedule_merge schedule_merge_reads Good (λ c k. of_good k) targets (λ s o. merge_finishes s) b r [] i handled 0 now after u l t a e

  pub run_begins : (now : List ℕ) → Holds now b → well_formed b ≡ true → Run 0 0 now
  run_begins now h ok = begins schedule_merge schedule_merge_reads Good (λ c k. of_good k) targets [] b now h ok (good_of_lem b ok)

  pub run_ends : (i handled : ℕ) (now : List ℕ) → Run i handled now → length targets ≤ i → Step (λ c. batch schedule_merge targets [] b) b now (outcome answers.Done handled 0)
  run_ends i handled now u l = ends schedule_merge schedule_merge_reads Good (λ c k. of_good k) targets [] b i handled 0 now u l

-- the step itself
pub step_is : (targets : List Shard) (b : Board) → targets ≡ targets_of MergesToSchedule b → (after : List ℕ) (r : Outcome) → Step (λ c. batch schedule_merge targets [] b) b after r → Step schedule_merges b after r
unfolding schedule_merges unscheduled
step_is targets b e after r s = record { told = (rw e at s).told; left = (rw e at s).left }
