use native.Mathlib.Omega.{arith}
use borrow.Author.Tests.{eq-eqb, ne_eqb}
use Rattle.rules.specs.Lists.{◌and◌}
use Rattle.committee.proofs.Rotates.{interval_some}
use Rattle.committee.proofs.rotate.at_interval.Goals as goal

pub returns-then-epoch-eq0 : goal.returns-then-epoch-eq0
unfolding ◌and◌
returns-then-epoch-eq0 c = λ b h ok. rw (← c.epoch-epoch.ensures b h, eq-eqb _ 0 c.if-epoch-eq0.true)

pub returns-then-interval-eq0 : goal.returns-then-interval-eq0
returns-then-interval-eq0 c = λ b h ok. absurd (omega (arith, c.shuffle_interval-interval.ensures b h, interval_some b ok))

pub returns : goal.returns
unfolding ◌and◌
returns c = λ b h ok. rw (← c.epoch-epoch.ensures b h, ← c.shuffle_interval-interval.ensures b h, ne_eqb _ 0 c.if-epoch-eq0.false)
