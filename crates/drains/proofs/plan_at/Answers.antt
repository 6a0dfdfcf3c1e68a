use Rattle.std.proofs.Common.{sym, ◌∙◌}
use borrow.Author.Tests.{not-true, not-false}
use Rattle.drains.proofs.Drains.{bounds_of, plan_stamp, plan_wait, plan_schedule, plan_unbounded}
use Rattle.drains.proofs.plan_at.Goals as goal

pub returns-then-not-is_draining : goal.returns-then-not-is_draining
returns-then-not-is_draining c = λ b h ok l. plan_stamp _ _ b (sym (c.is_draining.ensures b h l) ∙ not-true _ c.if-not-is_draining.true-raw)

pub returns-then-not-is_quiet : goal.returns-then-not-is_quiet
returns-then-not-is_quiet c = λ b h ok l. plan_wait _ _ b (sym (c.is_draining.ensures b h l) ∙ not-false _ c.if-not-is_draining.false-raw) (sym (c.is_quiet.ensures b h l) ∙ not-true _ c.if-not-is_quiet.true-raw)

pub returns-then-bounds_stand : goal.returns-then-bounds_stand
returns-then-bounds_stand c = λ b h ok l.
    plan_schedule _ _ b (sym (c.is_draining.ensures b h l) ∙ not-false _ c.if-not-is_draining.false-raw) (sym (c.is_quiet.ensures b h l) ∙ not-false _ c.if-not-is_quiet.false-raw)
    (sym (bounds_of _ _ b _ (c.is_merge-merging.ensures b h l) _ (c.bounds_stand.ensures b h ok)) ∙ c.if-bounds_stand.true)

pub returns : goal.returns
returns c = λ b h ok l.
    plan_unbounded _ _ b (sym (c.is_draining.ensures b h l) ∙ not-false _ c.if-not-is_draining.false-raw) (sym (c.is_quiet.ensures b h l) ∙ not-false _ c.if-not-is_quiet.false-raw)
    (sym (bounds_of _ _ b _ (c.is_merge-merging.ensures b h l) _ (c.bounds_stand.ensures b h ok)) ∙ c.if-bounds_stand.false)
