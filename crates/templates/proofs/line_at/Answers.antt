use Prim.Native.Nat.{◌+◌, ◌-◌}
use mathlib.Core.Path.{◌≡◌, refl}
use native.Mathlib.Omega.{arith}
use Rattle.templates.proofs.Walks.{next, past, there}
use Rattle.templates.proofs.line_at.Goals as goal

pub loop-passed-init : goal.loop-passed-init
loop-passed-init c = let z : c.args.k - 0 ≡ c.args.k = omega arith in (omega arith, rw z refl)

pub returns-then-e-text : goal.returns-then-e-text
returns-then-e-text c = past c.args.text.now c.args.k c.loop-passed.s _ c.line_end-e.result c.loop-passed.invariant.1 c.line_end-e.ensures.1 (omega arith) c.if-e-text.true

pub loop-passed-preserved : goal.loop-passed-preserved
loop-passed-preserved c =
    let z : c.args.k - (c.loop-passed._passed + 1) ≡ c.args.k - c.loop-passed._passed - 1 = omega arith in
    (omega (arith, c.line_end-e.ensures.0, c.if-e-text.false), rw z (next c.args.text.now c.args.k c.loop-passed.s _ c.line_end-e.result c.loop-passed.invariant.1 c.line_end-e.ensures.1 (omega arith)))

pub returns : goal.returns
returns c = there c.args.text.now c.args.k c.loop-passed.s _ c.line_end-e-2.result c.loop-passed.invariant.1 c.line_end-e-2.ensures.1 (omega arith)
