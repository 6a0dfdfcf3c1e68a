-- A split's turn, as the code has it: the draws, each way out; and the turns in a row.
use Prim.Native.Nat.{ℕ, ◌+◌, ◌≤◌, ◌<◌}
use mathlib.Core.Path.{◌≡◌, refl, ap, sym, subst, ◌∙◌}
use mathlib.Core.List.{List}
use mathlib.Core.Option.{Option, none, some}
use mathlib.Core.Bool.{Bool, true, false, cond, not}
use native.Mathlib.Omega.{arith}
use lib.ListN.{length, get_or}
use Rattle.std.specs.Prelude.{Result, Ok, Err}
use Rattle.types.specs.Numbers.{Shard, Id}
use Rattle.types.specs.Places.{is_seated_on, is_ready}
use Rattle.types.specs.declared.Answer.{Answer}
use Rattle.types.specs.declared.Answer.TheVariants as answers
use Rattle.types.specs.declared.Outcome.{Outcome}
use Rattle.rules.specs.Lists.{◌and◌, count, has, sort}
use Rattle.rules.specs.Table.{Table, at}
use Rattle.rules.specs.Board.{split, Reshape, Board}
use Rattle.rules.specs.WellFormed.{well_formed}
use Rattle.rules.specs.Draws.{drew, shuffle}
use Rattle.rules.specs.Moves.{says, members_of, entrants_on, abort_rotations, bounds_stand}
use Rattle.rules.specs.Turns.{Turn, finished, refused, drawn, batch}
use Rattle.rules.specs.Reshapes.{half_up}
use Rattle.rules.specs.Schedule.{unscheduled, scheduled, drain_or_schedule, ready_for, split_gate, pass_gate, seated_there, halve, schedule_split, schedule_splits}
use Rattle.rules.proofs.Counts.{occ, occ_take, occ_keep, count_same, shuffle_keeps}
use Rattle.rules.proofs.Tests.{and_parts, of_not, le_of, of_le, has_occ}
use Rattle.rules.proofs.KeptLists.{occ_drop, occ_sort}
use Rattle.rules.proofs.KeptBoard.{good_of_lem, of_good}
use Rattle.rules.proofs.KeptMoves.{good_abort}
use Rattle.rules.proofs.KeptSchedule.{Splits, all_splits, split_finishes}
use Rattle.rules.proofs.Draws.{schedule_split_reads}
use Rattle.board.specs.Held.{Holds, no_reshape}
use Rattle.steps.specs.Inner.{outcome, Step}
use Rattle.sampling.specs.declared.DrawError.{DrawError}
use Rattle.sampling.specs.declared.DrawError.TheVariants.{Missing, TooLarge}
use Rattle.sampling.specs.Reads.{no_draw, answer_to}
use Rattle.pool.specs.Told.{TurnTells}
use Rattle.pool.specs.declared.Turn as step
use Rattle.gathering.specs.Gathered.{Staying, gathered}
use Rattle.batches.specs.Underway.{Within, Underway}
use Rattle.batches.proofs.Law.{TellsShard, begins, ends}
use Rattle.batches.proofs.Loop.{turn_done, turn_refused}
use Rattle.drains.specs.declared.Plan.{Plan}
use Rattle.drains.specs.Plans.{RowOf, plan_of}
use Rattle.drains.proofs.Drains.{planned, drain_planned, row_at}
use Rattle.halving.specs.Gate.{lefts, rights}
use Rattle.schedule_splits.specs.Stay.{Stay}
use Rattle.schedule_splits.proofs.Stays.{stayer_says, seated_stay, abort_rest}

-- ---- after the abort

module _ (t : Shard) (b : Board) where
  abbrev aborted : Board
  aborted = abort_rotations t b

  reshapes_kept : aborted.reshapes ≡ b.reshapes
  reshapes_kept = ap (λ c. c.reshapes) (abort_rest t b)

  settings_kept : aborted.settings ≡ b.settings
  settings_kept = ap (λ c. c.settings) (abort_rest t b)

  plan_kept : (r : Reshape) → plan_of t r aborted ≡ plan_of t r b
  unfolding bounds_stand
  plan_kept r = ap (plan_of t r) (abort_rest t b)

  pub row_kept : (i : ℕ) → RowOf t i b → RowOf t i aborted
  row_kept i r = record { inside = rw reshapes_kept r.inside; named = rw reshapes_kept r.named }

  pub abort_well : well_formed b ≡ true → well_formed aborted ≡ true
  abort_well ok = of_good (good_abort t (good_of_lem b ok))

  pub schedule_kept : (i : ℕ) (left right : List Id) (after : List ℕ) → Holds after (scheduled t (get_or aborted.reshapes i no_reshape).val left right aborted)
      → Holds after (scheduled t (get_or b.reshapes i no_reshape).val left right aborted)
  schedule_kept i left right after h = subst (λ (x : Table Reshape). Holds after (scheduled t (get_or x i no_reshape).val left right aborted)) reshapes_kept h

  module _ (ids : List Id) (stay : Stay t ids b) where
    ready_kept : (half : List Id) → ((y : Id) → occ y half ≤ occ y ids) → count (says is_ready aborted) half ≡ count (says is_ready b) half
    ready_kept half m = count_same _ _ half (λ y o. stayer_says t b is_ready y (stay y (has_occ y ids ∙ of_le 1 (occ y ids) (omega (arith, m y)))))

    gate_kept : (r : Reshape) → split_gate t (lefts ids) (rights ids) r aborted ≡ split_gate t (lefts ids) (rights ids) r b
    unfolding split_gate ready_for
    gate_kept r = rw (settings_kept, ready_kept (lefts ids) (λ y. occ_take y (half_up (length ids)) ids), ready_kept (rights ids) (λ y. occ_drop y (half_up (length ids)) ids))

    module _ (draws : List ℕ) where
      pub pass_shut : ((q : Reshape) → at t b.reshapes ≡ some q → split_gate t (lefts ids) (rights ids) q b ≡ false) → pass_gate t (lefts ids) (rights ids) draws aborted ≡ finished 0 draws aborted
      unfolding pass_gate
      pass_shut n = go (at t aborted.reshapes) refl
        where
          go : (o : Option Reshape) → at t aborted.reshapes ≡ o → elim o [
            | none ↦ finished 0 draws aborted
            | some r ↦ cond (split_gate t (lefts ids) (rights ids) r aborted) (drain_or_schedule t r (lefts ids) (rights ids) draws aborted) (finished 0 draws aborted)
          ] ≡ finished 0 draws aborted
          go none e = refl
          go (some r) e = rw (gate_kept r ∙ n r (sym (ap (at t) reshapes_kept) ∙ e))

      pub pass_open : well_formed b ≡ true → (i : ℕ) → RowOf t i b → split_gate t (lefts ids) (rights ids) (get_or b.reshapes i no_reshape).val b ≡ true
          → (p : Plan) → p ≡ plan_of t (get_or b.reshapes i no_reshape).val b
          → pass_gate t (lefts ids) (rights ids) draws aborted ≡ planned t (get_or b.reshapes i no_reshape).val (lefts ids) (rights ids) draws aborted p
      unfolding pass_gate
      pass_open ok i r y p q =
          let row = (get_or b.reshapes i no_reshape).val in
          let e : at t aborted.reshapes ≡ some row = ap (at t) reshapes_kept ∙ row_at b ok t i r in
          let g : split_gate t (lefts ids) (rights ids) row aborted ≡ true = gate_kept row ∙ y in
          let d = drain_planned t row (lefts ids) (rights ids) draws aborted ∙ ap (planned t row (lefts ids) (rights ids) draws aborted) (plan_kept row ∙ sym q) in
          rw (e, pass_gate, g) d

-- ---- the draws

module _ (t : Shard) (b : Board) (draws before : List ℕ) (e : before ≡ gathered Staying t b) where
  drawn_among : shuffle (seated_there t (abort_rotations t b)) draws ≡ shuffle (sort before) draws
  drawn_among = ap (λ (l : List Id). shuffle l draws) (seated_stay t b ∙ ap sort (sym e))

  module _ (ids rest : List ℕ) (d : shuffle (sort before) draws ≡ drew ids rest) where
    pub split_drew : schedule_split t draws b ≡ pass_gate t (lefts ids) (rights ids) rest (abort_rotations t b)
    unfolding schedule_split halve drawn
    split_drew = rw (drawn_among ∙ d)

    pub split_stays : Stay t ids b
    split_stays y u = go (f y) refl
      where
        f : Id → Bool
        f x = says (is_seated_on t) b x and not (has x (entrants_on t b.rotations))

        listed : occ y ids ≡ cond (f y) (occ y (members_of t b)) 0
        listed = (shuffle_keeps y (sort before) draws ids rest d).1 ∙ occ_sort y before ∙ ap (occ y) e ∙ occ_keep f y (members_of t b)

        here : 1 ≤ occ y ids
        here = le_of 1 (occ y ids) (sym (has_occ y ids) ∙ u)

        go : (c : Bool) → f y ≡ c → has y (entrants_on t b.rotations) ≡ false
        go true v = of_not _ (and_parts _ _ v).1
        go false v = absurd (omega (arith, here, rw v at listed))

  pub split_lacks : (e : DrawError) → shuffle (sort before) draws ≡ no_draw e → schedule_split t draws b ≡ refused (answer_to e)
  unfolding schedule_split halve drawn
  split_lacks x q = go x (drawn_among ∙ q)
    where
      go : (x : DrawError) → shuffle (seated_there t (abort_rotations t b)) draws ≡ no_draw x → schedule_split t draws b ≡ refused (answer_to x)
      go Missing u = rw u
      go TooLarge u = rw u

pub tells_same : (draws after : List ℕ) (b : Board) (x y : Turn) (r : Result step.Turn Answer) → x ≡ y → TurnTells draws after b y r → TurnTells draws after b x r
tells_same draws after b x y r e h = subst (λ (z : Turn). TurnTells draws after b z r) (sym e) h

pub within_more : (m n : ℕ) (r : Result step.Turn Answer) → m ≤ n → Within m r → Within n r
within_more m n (Ok t) l w = (w.0, omega (arith, w.1))
within_more m n (Err a) l w = tt

-- ---- the turns in a row

module _ (targets : List Shard) (draws : List ℕ) (b : Board) where
  abbrev pub Run : ℕ → ℕ → ℕ → List ℕ → Type 0
  Run i handled used now = Underway schedule_split (Splits targets) targets draws b i handled used now

  module _ (i handled used : ℕ) (now after : List ℕ) (u : Run i handled used now) (l : i < length targets) (r : Result step.Turn Answer) (t : TellsShard schedule_split draws used (get_or targets i 0) now after r) where
    pub run_on : (done : step.Turn) → r ≡ Ok done → Run (i + 1) (handled + done.handled) done.left.at after
    run_on done e = turn_done schedule_split schedule_split_reads (Splits targets) (λ c k. of_good k.good) targets (split_finishes targets) b r draws i handled used now after u l t done e

    pub run_stops : (a : Answer) → r ≡ Err a → Step (λ c. batch schedule_split targets draws b) b after (outcome a handled used)
    run_stops a e = turn_refused schedule_split schedule_split_reads (Splits targets) (λ c k. of_good k.good) targets (split_finishes targets) b r draws i handled used now after u l t a e

  pub run_ends : (i handled used : ℕ) (now : List ℕ) → Run i handled used now → length targets ≤ i → Step (λ c. batch schedule_split targets draws b) b now (outcome answers.Done handled used)
  run_ends i handled used now u l = ends schedule_split schedule_split_reads (Splits targets) (λ c k. of_good k.good) targets draws b i handled used now u l

  module _ (e : targets ≡ unscheduled split b) where
    pub run_begins : (now : List ℕ) → Holds now b → well_formed b ≡ true → Run 0 0 0 now
    run_begins now h ok = begins schedule_split schedule_split_reads (Splits targets) (λ c k. of_good k.good) targets draws b now h ok (rw e (all_splits b (good_of_lem b ok)))

    pub step_is : (after : List ℕ) (r : Outcome) → Step (λ c. batch schedule_split targets draws b) b after r → Step (schedule_splits draws) b after r
    unfolding schedule_splits
    step_is after r s = record { told = (rw e at s).told; left = (rw e at s).left }
