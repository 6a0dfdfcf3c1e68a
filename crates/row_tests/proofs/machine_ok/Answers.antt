use mathlib.Core.Path.{sym, ◌∙◌}
use borrow.Author.Tests.{not-true, not-false}
use lib.ListN.{get_or}
use Rattle.row_tests.specs.Rows.{machine_ok}
use Rattle.row_tests.proofs.Rows.{place_other, mark_fails, ready_fails, stamp_tells}
use Rattle.row_tests.proofs.machine_ok.Goals as goal

pub returns-then-code-gt4 : goal.returns-then-code-gt4
unfolding machine_ok
returns-then-code-gt4 c = place_other _ _ _ _ c.if-code-gt4.true

pub returns-then-not-inside : goal.returns-then-not-inside
unfolding machine_ok
returns-then-not-inside c = mark_fails (get_or c.args.t.now 1 0) _ _ _ _ _ _ _ c.if-code-gt4.false c.by_code-mark_least.ensures c.by_code-mark_most.ensures c.by_code-ready_most.ensures c.by_code-stamp_most.ensures
    (sym c.inside.ensures ∙ not-true _ c.if-not-inside.true-raw)

pub returns-then-ready_most-t : goal.returns-then-ready_most-t
unfolding machine_ok
returns-then-ready_most-t c = ready_fails (get_or c.args.t.now 1 0) _ _ _ _ _ _ _ c.if-code-gt4.false c.by_code-mark_least.ensures c.by_code-mark_most.ensures c.by_code-ready_most.ensures c.by_code-stamp_most.ensures
    (sym c.inside.ensures ∙ not-false _ c.if-not-inside.false-raw) c.if-ready_most-t.true

pub returns : goal.returns
unfolding machine_ok
returns c = stamp_tells (get_or c.args.t.now 1 0) _ _ _ _ _ _ _ c.if-code-gt4.false c.by_code-mark_least.ensures c.by_code-mark_most.ensures c.by_code-ready_most.ensures c.by_code-stamp_most.ensures
    (sym c.inside.ensures ∙ not-false _ c.if-not-inside.false-raw) c.if-ready_most-t.false
