-- The call that numbers ask for: a step by its place in the order of `Calls`, from 1 on.
use Rattle.std.specs.Prelude.{ℕ, zero, suc, List, [], ◌∷◌}
use Rattle.std.proofs.Math.Option.{Option, none, some}
use Rattle.applying.specs.declared.Call as code
use Rattle.applying.specs.declared.Call.TheVariants as given
use Rattle.rules.specs.Calls.{Call, tick, admit_split, admit_merge, mark_seat_ready, mark_quiet, draw_cohort, lapse, schedule_splits, schedule_merges, cut_splits, cut_merges, leave, rotate, resolve, time_out}

-- the first is at 1
unfoldable pub call_at : List Call → ℕ → Option Call
call_at cs zero = none
call_at [] (suc n) = none
call_at (c ∷ cs) (suc zero) = some c
call_at (c ∷ cs) (suc (suc n)) = call_at cs (suc n)

-- each with the arguments that its export takes, in their order
abbrev pub calls : ℕ → ℕ → List ℕ → List Call
calls first second draws =
    tick
    ∷ admit_split first
    ∷ admit_merge first draws
    ∷ mark_seat_ready first second
    ∷ mark_quiet first second
    ∷ draw_cohort first draws
    ∷ lapse first
    ∷ schedule_splits draws
    ∷ schedule_merges
    ∷ cut_splits
    ∷ cut_merges
    ∷ leave first draws
    ∷ rotate first second draws
    ∷ resolve
    ∷ time_out
    ∷ []

abbrev pub call_of : ℕ → ℕ → ℕ → List ℕ → Option Call
call_of step first second draws = call_at (calls first second draws) step

-- the rules' call that a call of the code is
abbrev pub asked : code.Call → Call
asked given.Tick = tick
asked (given.AdmitSplit target) = admit_split target.0
asked (given.AdmitMerge target draws) = admit_merge target.0 draws.now
asked (given.MarkSeatReady target machine) = mark_seat_ready target.0 machine.0
asked (given.MarkQuiet target side) = mark_quiet target.0 side
asked (given.DrawCohort target draws) = draw_cohort target.0 draws.now
asked (given.Lapse target) = lapse target.0
asked (given.ScheduleSplits draws) = schedule_splits draws.now
asked given.ScheduleMerges = schedule_merges
asked given.CutSplits = cut_splits
asked given.CutMerges = cut_merges
asked (given.Leave machine draws) = leave machine.0 draws.now
asked (given.Rotate shard machine draws) = rotate shard.0 machine.0 draws.now
asked given.Resolve = resolve
asked given.TimeOut = time_out
