use mathlib.Core.Path.{ap, sym}
use Rattle.step_names.specs.declared.Step.{Step}
use Rattle.phrases.specs.Texts.{bytes}
use Rattle.step_names.specs.Table.{steps, number, name_of}
use Rattle.step_names.proofs.Step.name.Goals as goal

pub returns-in-Tick : goal.returns-in-Tick
unfolding bytes steps number name_of
returns-in-Tick c = ap (λ (s : Step). bytes (name_of s)) (sym c.in-Tick.is)

pub returns-in-AdmitSplit : goal.returns-in-AdmitSplit
unfolding bytes steps number name_of
returns-in-AdmitSplit c = ap (λ (s : Step). bytes (name_of s)) (sym c.in-AdmitSplit.is)

pub returns-in-AdmitMerge : goal.returns-in-AdmitMerge
unfolding bytes steps number name_of
returns-in-AdmitMerge c = ap (λ (s : Step). bytes (name_of s)) (sym c.in-AdmitMerge.is)

pub returns-in-MarkSeatReady : goal.returns-in-MarkSeatReady
unfolding bytes steps number name_of
returns-in-MarkSeatReady c = ap (λ (s : Step). bytes (name_of s)) (sym c.in-MarkSeatReady.is)

pub returns-in-MarkQuiet : goal.returns-in-MarkQuiet
unfolding bytes steps number name_of
returns-in-MarkQuiet c = ap (λ (s : Step). bytes (name_of s)) (sym c.in-MarkQuiet.is)

pub returns-in-DrawCohort : goal.returns-in-DrawCohort
unfolding bytes steps number name_of
returns-in-DrawCohort c = ap (λ (s : Step). bytes (name_of s)) (sym c.in-DrawCohort.is)

pub returns-in-Lapse : goal.returns-in-Lapse
unfolding bytes steps number name_of
returns-in-Lapse c = ap (λ (s : Step). bytes (name_of s)) (sym c.in-Lapse.is)

pub returns-in-ScheduleSplits : goal.returns-in-ScheduleSplits
unfolding bytes steps number name_of
returns-in-ScheduleSplits c = ap (λ (s : Step). bytes (name_of s)) (sym c.in-ScheduleSplits.is)

pub returns-in-ScheduleMerges : goal.returns-in-ScheduleMerges
unfolding bytes steps number name_of
returns-in-ScheduleMerges c = ap (λ (s : Step). bytes (name_of s)) (sym c.in-ScheduleMerges.is)

pub returns-in-CutSplits : goal.returns-in-CutSplits
unfolding bytes steps number name_of
returns-in-CutSplits c = ap (λ (s : Step). bytes (name_of s)) (sym c.in-CutSplits.is)

pub returns-in-CutMerges : goal.returns-in-CutMerges
unfolding bytes steps number name_of
returns-in-CutMerges c = ap (λ (s : Step). bytes (name_of s)) (sym c.in-CutMerges.is)

pub returns-in-Leave : goal.returns-in-Leave
unfolding bytes steps number name_of
returns-in-Leave c = ap (λ (s : Step). bytes (name_of s)) (sym c.in-Leave.is)

pub returns-in-Rotate : goal.returns-in-Rotate
unfolding bytes steps number name_of
returns-in-Rotate c = ap (λ (s : Step). bytes (name_of s)) (sym c.in-Rotate.is)

pub returns-in-Resolve : goal.returns-in-Resolve
unfolding bytes steps number name_of
returns-in-Resolve c = ap (λ (s : Step). bytes (name_of s)) (sym c.in-Resolve.is)

pub returns-in-TimeOut : goal.returns-in-TimeOut
unfolding bytes steps number name_of
returns-in-TimeOut c = ap (λ (s : Step). bytes (name_of s)) (sym c.in-TimeOut.is)
