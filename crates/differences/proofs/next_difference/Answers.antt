use mathlib.Core.Path.{refl, sym, ◌∙◌}
use native.Mathlib.Omega.{arith}
use borrow.Author.Tests.{not-true, not-false}
use Rattle.differences.proofs.Rows.{compared, first_ends, second_ends, both_end, row_gone, row_new, row_changed, row_same}
use Rattle.differences.proofs.next_difference.Goals as goal

pub loop-k-init : goal.loop-k-init
loop-k-init c = λ z rs qs o p. refl

pub returns-then-m-l : goal.returns-then-m-l
returns-then-m-l c = λ z rs qs o p.
    first_ends _ o p c.loop-k.k c.loop-k.l (omega (arith, c.rows_in-n.ensures.1 z rs o)) (omega (arith, c.rows_in-m.ensures.1 z qs p)) ∙ c.loop-k.invariant z rs qs o p

pub row_at-row-requires : goal.row_at-row-requires
row_at-row-requires c = c.rows_in-n.ensures.0 c.loop-k.k (omega arith)

pub row_at-other-requires : goal.row_at-other-requires
row_at-other-requires c = c.rows_in-m.ensures.0 c.loop-k.l (omega arith)

pub returns-then-rises : goal.returns-then-rises
returns-then-rises c = λ z rs qs o p.
    row_gone _ o p c.loop-k.k c.loop-k.l _ _ c.row_at-row.ensures c.row_at-other.ensures (omega (arith, c.rows_in-n.ensures.1 z rs o)) (omega (arith, c.rows_in-m.ensures.1 z qs p))
    (sym c.rises.ensures ∙ c.if-rises.true) ∙ c.loop-k.invariant z rs qs o p

pub returns-then-rises-2 : goal.returns-then-rises-2
returns-then-rises-2 c = λ z rs qs o p.
    row_new _ o p c.loop-k.k c.loop-k.l _ _ c.row_at-row.ensures c.row_at-other.ensures (omega (arith, c.rows_in-n.ensures.1 z rs o)) (omega (arith, c.rows_in-m.ensures.1 z qs p))
    (sym c.rises.ensures ∙ c.if-rises.false) (sym c.rises-in-loop-k.ensures ∙ c.if-rises-2.true) ∙ c.loop-k.invariant z rs qs o p

pub returns-then-ne : goal.returns-then-ne
returns-then-ne c = λ z rs qs o p.
    row_changed _ o p c.loop-k.k c.loop-k.l _ _ c.row_at-row.ensures c.row_at-other.ensures (omega (arith, c.rows_in-n.ensures.1 z rs o)) (omega (arith, c.rows_in-m.ensures.1 z qs p))
    (sym c.rises.ensures ∙ c.if-rises.false) (sym c.rises-in-loop-k.ensures ∙ c.if-rises-2.false) (sym (compared _ _) ∙ not-true _ (sym c.if-ne.ensures)) ∙ c.loop-k.invariant z rs qs o p

pub loop-k-preserved : goal.loop-k-preserved
loop-k-preserved c = λ z rs qs o p.
    row_same _ o p c.loop-k.k c.loop-k.l _ _ c.row_at-row.ensures c.row_at-other.ensures (omega (arith, c.rows_in-n.ensures.1 z rs o)) (omega (arith, c.rows_in-m.ensures.1 z qs p))
    (sym c.rises.ensures ∙ c.if-rises.false) (sym c.rises-in-loop-k.ensures ∙ c.if-rises-2.false) (sym (compared _ _) ∙ not-false _ (sym c.if-ne.ensures)) ∙ c.loop-k.invariant z rs qs o p

pub returns-then-l-m : goal.returns-then-l-m
returns-then-l-m c = λ z rs qs o p.
    second_ends _ o p c.loop-k.k c.loop-k.l (omega (arith, c.rows_in-n.ensures.1 z rs o)) (omega (arith, c.rows_in-m.ensures.1 z qs p)) ∙ c.loop-k.invariant z rs qs o p

pub returns : goal.returns
returns c = λ z rs qs o p.
    both_end _ o p c.loop-k.k c.loop-k.l (omega (arith, c.rows_in-n.ensures.1 z rs o)) (omega (arith, c.rows_in-m.ensures.1 z qs p)) ∙ c.loop-k.invariant z rs qs o p
