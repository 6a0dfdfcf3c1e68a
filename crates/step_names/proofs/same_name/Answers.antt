use mathlib.Core.Path.{refl}
use native.Mathlib.Omega.{arith}
use Rattle.step_names.proofs.Same.{other_length, byte_differs, byte_same, all_same}
use Rattle.step_names.proofs.same_name.Goals as goal

pub returns-then-word-name : goal.returns-then-word-name
returns-then-word-name c = other_length _ _ c.if-word-name.true

pub loop-i-init : goal.loop-i-init
loop-i-init c = (omega arith, c.if-word-name.false, refl)

pub returns-then-underscored-name : goal.returns-then-underscored-name
returns-then-underscored-name c = byte_differs _ _ c.loop-i.i c.loop-i.invariant.1 c.loop-i.invariant.2 _ (omega arith) c.underscored.ensures c.if-underscored-name.true

pub loop-i-preserved : goal.loop-i-preserved
loop-i-preserved c = (omega arith, c.loop-i.invariant.1, byte_same _ _ c.loop-i.i c.loop-i.invariant.1 c.loop-i.invariant.2 _ (omega arith) c.underscored.ensures c.if-underscored-name.false)

pub returns : goal.returns
returns c = all_same _ _ c.loop-i.i c.loop-i.invariant.1 c.loop-i.invariant.2 (omega arith) (omega arith)
