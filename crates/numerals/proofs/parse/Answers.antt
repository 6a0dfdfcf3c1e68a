use mathlib.Core.Path.{sym, ◌∙◌}
use native.Mathlib.Omega.{arith}
use borrow.Author.Tests.{eqb-true, eqb-false}
use Rattle.numerals.proofs.Decimals.{parse_starts, parse_nothing, parse_goes_on, parse_stops, parse_ends}
use Rattle.numerals.proofs.parse.Goals as goal

pub returns-then-is_empty : goal.returns-then-is_empty
returns-then-is_empty c = sym (parse_nothing c.args.text.now (eqb-true _ _ (sym c.if-is_empty.ensures)))

pub loop-b-init : goal.loop-b-init
loop-b-init c = let n = eqb-false _ _ (sym c.if-is_empty.ensures) in (parse_starts c.args.text.now (omega arith), omega arith)

pub returns-in_err-v : goal.returns-in_err-v
returns-in_err-v c = c.from_residual.ensures ∙ sym (parse_stops c.args.text.now c.loop-b.v c.loop-b.b-index c.loop-b.invariant.0 (omega arith) (sym c.in_err-v.ensures))

pub loop-b-preserved : goal.loop-b-preserved
loop-b-preserved c = parse_goes_on c.args.text.now c.loop-b.v c.loop-b.b-index c.loop-b.invariant.0 _ (omega arith) (sym c.in_ok-v.ensures)

pub returns : goal.returns
returns c = sym (parse_ends c.args.text.now c.loop-b.v c.loop-b.b-index c.loop-b.invariant.0 (omega arith) c.loop-b.invariant.1)
