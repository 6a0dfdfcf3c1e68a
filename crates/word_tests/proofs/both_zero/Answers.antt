use mathlib.Core.Path.{refl}
use native.Mathlib.Omega.{arith}
use lib.Dec.{eqb}
use Rattle.word_tests.specs.Tests.{all_zero}
use Rattle.word_tests.proofs.Loops.{gathered, is_zero, zero_nil, zero_cons, zero_more}
use Rattle.word_tests.proofs.both_zero.Goals as goal

pub loop-i-init : goal.loop-i-init
loop-i-init c = (omega arith, refl, refl)

pub loop-i-preserved : goal.loop-i-preserved
loop-i-preserved c = (
  omega arith,
  zero_more _ c.loop-i.i c.loop-i.low c.loop-i-test.true c.loop-i.invariant.1,
  zero_more _ c.loop-i.i c.loop-i.high (omega (arith, c.requires)) c.loop-i.invariant.2,
)

pub returns : goal.returns
returns c = let s = gathered all_zero is_zero zero_nil zero_cons _ c.loop-i.i (eqb c.loop-i.low 0) (omega arith) c.loop-i.invariant.1 in
    let t = gathered all_zero is_zero zero_nil zero_cons _ c.loop-i.i (eqb c.loop-i.high 0) (omega (arith, c.requires)) c.loop-i.invariant.2 in
    rw (s, t)
