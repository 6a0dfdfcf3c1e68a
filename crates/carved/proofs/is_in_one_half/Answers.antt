use mathlib.Core.Path.{sym, ◌∙◌}
use borrow.Author.Tests.{not-true, not-false}
use Rattle.carved.proofs.Carved.{not_seated, seated_halved}
use Rattle.carved.proofs.is_in_one_half.Goals as goal

pub returns-then-not-is_seated_on : goal.returns-then-not-is_seated_on
returns-then-not-is_seated_on c = λ b h l. not_seated _ _ _ _ (sym c.is_seated_on.ensures ∙ not-true _ c.if-not-is_seated_on.true-raw)

pub returns : goal.returns
returns c = λ b h l. seated_halved _ _ _ _ (sym c.is_seated_on.ensures ∙ not-false _ c.if-not-is_seated_on.false-raw) _ _ (c.contains-is_left.ensures b h l) (c.contains-is_right.ensures b h l)
