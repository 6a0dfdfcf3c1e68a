use mathlib.Core.Path.{sym, ◌∙◌}
use Rattle.cohorts.proofs.Draws.{merge_awaits, scheduled_awaits, empty_awaits}
use Rattle.cohorts.proofs.draw.awaits_cohort.Goals as goal

pub returns-then-is_merge : goal.returns-then-is_merge
returns-then-is_merge c = λ b h l. merge_awaits _ (sym (c.is_merge.ensures b h l) ∙ c.if-is_merge.true)

pub returns-then-is_scheduled : goal.returns-then-is_scheduled
returns-then-is_scheduled c = λ b h l. scheduled_awaits _ (sym (c.is_merge.ensures b h l) ∙ c.if-is_merge.false) (sym (c.is_scheduled.ensures b h l) ∙ c.if-is_scheduled.true)

pub returns : goal.returns
returns c = λ b h l. empty_awaits _ (sym (c.is_merge.ensures b h l) ∙ c.if-is_merge.false) (sym (c.is_scheduled.ensures b h l) ∙ c.if-is_scheduled.false) _ (c.count.ensures b h l)
