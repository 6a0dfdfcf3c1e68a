use borrow.Author.Tests.{eq-eqb, ne_eqb}
use Rattle.step_names.proofs.underscored.Goals as goal

pub returns-then-b-eq45 : goal.returns-then-b-eq45
returns-then-b-eq45 c = rw (eq-eqb c.args.b 45 c.if-b-eq45.true)

pub returns-else-b-eq45 : goal.returns-else-b-eq45
returns-else-b-eq45 c = rw (ne_eqb c.args.b 45 c.if-b-eq45.false)
