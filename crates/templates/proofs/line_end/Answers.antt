use mathlib.Core.Path.{refl}
use native.Mathlib.Omega.{arith}
use borrow.Author.Tests.{eq-eqb, ne_eqb}
use Rattle.templates.proofs.Walks.{stops, goes_on_lem, ends}
use Rattle.templates.proofs.line_end.Goals as goal

pub loop-e-init : goal.loop-e-init
loop-e-init c = (omega arith, refl)

pub returns-then-text-e-eq10 : goal.returns-then-text-e-eq10
returns-then-text-e-eq10 c = let z = stops c.args.text.now c.loop-e.e (omega arith) (eq-eqb _ _ c.if-text-e-eq10.true) in (omega arith, omega (arith, c.loop-e.invariant.1))

pub loop-e-preserved : goal.loop-e-preserved
loop-e-preserved c = let z = goes_on_lem c.args.text.now c.loop-e.e (omega arith) (ne_eqb _ _ c.if-text-e-eq10.false) in (omega arith, omega (arith, c.loop-e.invariant.1))

pub returns : goal.returns
returns c = let z = ends c.args.text.now c.loop-e.e (omega arith) in (omega arith, omega (arith, c.loop-e.invariant.1))
