use borrow.Author.Tests.{not-true, not-false}
use Rattle.lifecycle.proofs.Ages.{age_yes, age_no}
use Rattle.lifecycle.proofs.age_at.Goals as goal

pub returns-then-not-is_overdue : goal.returns-then-not-is_overdue
returns-then-not-is_overdue c = λ b h l. age_no b _ _ _ _ (c.at-m.ensures b h l) _ c.is_overdue.ensures _ (not-true _ c.if-not-is_overdue.true-raw) h

pub returns : goal.returns
returns c = λ b h l. age_yes b _ _ _ _ (c.at-m.ensures b h l) _ c.is_overdue.ensures _ (not-false _ c.if-not-is_overdue.false-raw) _ c.made_ready-place.ensures (c.put.ensures b h l)
