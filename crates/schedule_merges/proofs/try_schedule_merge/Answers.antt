use mathlib.Core.Path.{sym, ◌∙◌}
use native.Mathlib.Omega.{arith}
use borrow.Author.Tests.{not-true, not-false}
use Rattle.rules.proofs.KeptBoard.{target_within, good_of_lem, no_target}
use Rattle.drains.specs.declared.Plan.TheVariants.{Stamp, Wait, Schedule, Unbounded}
use Rattle.drains.specs.Plans.{RowOf}
use Rattle.drains.proofs.Drains.{row_at}
use Rattle.schedule_merges.proofs.Merges.{merge_none, merge_shut, merge_open, turn_told}
use Rattle.schedule_merges.proofs.try_schedule_merge.Goals as goal

pub returns-then-not-is_target : goal.returns-then-not-is_target
returns-then-not-is_target c = ((omega arith, omega (arith, c.start-left.ensures)), λ b h ok. turn_told _ c.start-left.ensures _ 0 _ b (merge_none _ _ b (no_target (good_of_lem b ok) _ (sym c.is_target.ensures ∙ not-true _ c.if-not-is_target.true-raw))) h)

pub returns-in_default : goal.returns-in_default
returns-in_default c = ((omega arith, omega (arith, c.start-left.ensures)), λ b h ok. turn_told _ c.start-left.ensures _ 0 _ b (merge_none _ _ b (c.in_default.ensures.found b h ok)) h)

pub returns-then-not-passes_gate : goal.returns-then-not-passes_gate
returns-then-not-passes_gate c = (
  (omega arith, omega (arith, c.start-left.ensures)),
  λ b h ok.
      let f = c.in-Some.ensures.found b h ok in
      let r : RowOf _ _ b = record { inside = f.0; named = f.1 } in
      turn_told _ c.start-left.ensures _ 0 _ b (merge_shut _ _ b _ (row_at b ok _ _ r) (sym (c.passes_gate.ensures b h ok r.inside) ∙ not-true _ c.if-not-passes_gate.true-raw)) h,
)

pub plan_at-requires : goal.plan_at-requires
plan_at-requires c = (c.requires, c.in-Some.ensures.room, target_within _ (sym c.is_target.ensures ∙ not-false _ c.if-not-is_target.false-raw))

pub schedule-requires : goal.schedule-requires
schedule-requires c = (c.requires, c.in-Some.ensures.room, target_within _ (sym c.is_target.ensures ∙ not-false _ c.if-not-is_target.false-raw))

pub returns-in-Stamp : goal.returns-in-Stamp
returns-in-Stamp c = (
  (omega arith, omega (arith, c.start-left.ensures)),
  λ b h ok.
      let f = c.in-Some.ensures.found b h ok in
      let r : RowOf _ _ b = record { inside = f.0; named = f.1 } in
      turn_told _ c.start-left.ensures _ 0 _ _ (merge_open _ _ b _ (row_at b ok _ _ r) (sym (c.passes_gate.ensures b h ok r.inside) ∙ not-false _ c.if-not-passes_gate.false-raw) Stamp (sym c.in-Stamp.is ∙ c.plan_at.ensures b h ok r.inside))
      (c.stamp.ensures b h ok _ r),
)

pub returns-in-Wait : goal.returns-in-Wait
returns-in-Wait c = (
  (omega arith, omega (arith, c.start-left.ensures)),
  λ b h ok.
      let f = c.in-Some.ensures.found b h ok in
      let r : RowOf _ _ b = record { inside = f.0; named = f.1 } in
      turn_told _ c.start-left.ensures _ 0 _ b (merge_open _ _ b _ (row_at b ok _ _ r) (sym (c.passes_gate.ensures b h ok r.inside) ∙ not-false _ c.if-not-passes_gate.false-raw) Wait (sym c.in-Wait.is ∙ c.plan_at.ensures b h ok r.inside)) h,
)

pub returns-in-Schedule : goal.returns-in-Schedule
returns-in-Schedule c = (
  (omega arith, omega (arith, c.start-left.ensures)),
  λ b h ok.
      let f = c.in-Some.ensures.found b h ok in
      let r : RowOf _ _ b = record { inside = f.0; named = f.1 } in
      turn_told _ c.start-left.ensures _ 1 _ _ (merge_open _ _ b _ (row_at b ok _ _ r) (sym (c.passes_gate.ensures b h ok r.inside) ∙ not-false _ c.if-not-passes_gate.false-raw) Schedule (sym c.in-Schedule.is ∙ c.plan_at.ensures b h ok r.inside))
      (c.schedule.ensures b h ok r),
)

pub returns-in-Unbounded : goal.returns-in-Unbounded
returns-in-Unbounded c = (
  tt,
  λ b h ok.
      let f = c.in-Some.ensures.found b h ok in
      let r : RowOf _ _ b = record { inside = f.0; named = f.1 } in
      (merge_open _ _ b _ (row_at b ok _ _ r) (sym (c.passes_gate.ensures b h ok r.inside) ∙ not-false _ c.if-not-passes_gate.false-raw) Unbounded (sym c.in-Unbounded.is ∙ c.plan_at.ensures b h ok r.inside), h),
)
