use mathlib.Core.Path.{sym}
use native.Mathlib.Omega.{arith}
use borrow.Author.Tests.{eqb-true, eqb-false}
use Rattle.differences.proofs.Rows.{rows_within, table_long, count_is, count_fits}
use Rattle.differences.proofs.rows_in.Goals as goal

pub returns-then-is_empty : goal.returns-then-is_empty
returns-then-is_empty c = let e = eqb-true _ _ (sym c.if-is_empty.ensures) in (λ i h. absurd (omega arith), λ z rs o. absurd (omega (arith, e, table_long o)))

pub returns-then-t-w : goal.returns-then-t-w
returns-then-t-w c = (λ i h. absurd (omega arith), λ z rs o. absurd (omega (arith, c.if-t-w.true, count_is o, count_fits o z)))

pub returns : goal.returns
returns c = let n = eqb-false _ _ (sym c.if-is_empty.ensures) in (λ i h. rows_within c.args.w _ _ i (omega (arith, c.if-t-w.false)) (omega arith) h, λ z rs o. count_is o)
