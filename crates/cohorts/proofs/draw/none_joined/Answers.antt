use mathlib.Core.Path.{ap, sym, ◌∙◌}
use mathlib.Core.Bool.{true, false, not}
use native.Mathlib.Omega.{arith}
use Rattle.rules.specs.Lists.{◌and◌}
use Rattle.cohorts.proofs.Draws.{every_next, every_end}
use Rattle.cohorts.proofs.draw.none_joined.Invariants.{is_new}
use Rattle.cohorts.proofs.draw.none_joined.Goals as goal

pub returns-then-has_member : goal.returns-then-has_member
unfolding ◌and◌
returns-then-has_member c = λ b h l. sym (sym (c.loop-id.invariant.1 b h l) ∙ every_next (is_new _ b) _ _ false c.loop-id-test.true (ap not (sym (c.has_member.ensures b h l) ∙ c.if-has_member.true)))

pub loop-id-preserved : goal.loop-id-preserved
unfolding ◌and◌
loop-id-preserved c = (
  omega arith,
  λ b h l. sym (every_next (is_new _ b) _ _ true c.loop-id-test.true (ap not (sym (c.has_member.ensures b h l) ∙ c.if-has_member.false))) ∙ c.loop-id.invariant.1 b h l,
)

pub returns : goal.returns
returns c = λ b h l. sym (every_end (is_new _ b) _ _ c.loop-id-test.false) ∙ c.loop-id.invariant.1 b h l
