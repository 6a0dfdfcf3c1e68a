use mathlib.Core.Path.{refl, sym, ◌∙◌}
use native.Mathlib.Omega.{arith}
use Rattle.numerals.proofs.Walks.{run_stops, run_goes_on, run_ends}
use Rattle.numerals.proofs.piece_end.Goals as goal

pub loop-e-init : goal.loop-e-init
loop-e-init c = refl

pub returns-then-between : goal.returns-then-between
returns-then-between c =
    let z = run_stops c.args.text.now c.loop-e.e (omega arith) (sym c.between.ensures ∙ c.if-between.true) in
    (omega arith, omega (arith, c.loop-e.invariant))

pub loop-e-preserved : goal.loop-e-preserved
loop-e-preserved c =
    let z = run_goes_on c.args.text.now c.loop-e.e (omega arith) (sym c.between.ensures ∙ c.if-between.false) in
    omega (arith, c.loop-e.invariant)

pub returns : goal.returns
returns c =
    let z = run_ends c.args.text.now c.loop-e.e (omega arith) in
    (omega arith, omega (arith, c.loop-e.invariant))
