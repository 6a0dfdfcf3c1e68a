use mathlib.Core.Path.{◌∙◌}
use native.Mathlib.Omega.{arith}
use borrow.Author.Tests.{ne_eqb}
use Rattle.templates.proofs.Fills.{begins, in_run, passes, in_text, run_ends, ends_with_text, ends_with_run}
use Rattle.templates.proofs.fill.Goals as goal

pub loop-i-init : goal.loop-i-init
loop-i-init c = begins _ _ _ _

pub loop-i-preserved-then-b-eq35 : goal.loop-i-preserved-then-b-eq35
loop-i-preserved-then-b-eq35 c = in_run c.loop-i.invariant (omega arith) c.if-b-eq35.true

pub loop-i-preserved-then-w-gt0 : goal.loop-i-preserved-then-w-gt0
loop-i-preserved-then-w-gt0 c = run_ends c.loop-i.invariant (omega arith) (ne_eqb _ _ c.if-b-eq35.false) (omega arith) (rw c.number_at.ensures at c.put_number-a.ensures)

pub loop-i-preserved-then-b-eq126 : goal.loop-i-preserved-then-b-eq126
loop-i-preserved-then-b-eq126 c = passes c.loop-i.invariant (omega arith) c.if-b-eq126.true (omega arith)

pub loop-i-preserved : goal.loop-i-preserved
loop-i-preserved c = in_text c.loop-i.invariant (omega arith) (ne_eqb _ _ c.if-b-eq35.false) (ne_eqb _ _ c.if-b-eq126.false) (omega arith) c.put_text-a.ensures

pub shape_of-line-then-w-eq0 : goal.shape_of-line-then-w-eq0
shape_of-line-then-w-eq0 c = c.loop-i.invariant.puts.room

pub returns-then-w-eq0 : goal.returns-then-w-eq0
returns-then-w-eq0 c = ends_with_text c.loop-i.invariant (omega arith) (omega arith)

pub shape_of-line : goal.shape_of-line
shape_of-line c = c.put_number.ensures.room ∙ c.loop-i.invariant.puts.room

pub returns : goal.returns
returns c = ends_with_run c.loop-i.invariant (omega arith) (omega arith) (rw c.number_at-2.ensures at c.put_number.ensures)
