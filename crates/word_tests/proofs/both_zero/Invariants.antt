use Prim.Native.Nat.{◌≤◌}
use mathlib.Core.Path.{◌≡◌}
use mathlib.Core.Bool.{◌&&◌}
use lib.Dec.{eqb}
use lib.ListN.{length, drop}
use Rattle.word_tests.specs.Tests.{all_zero}
use Rattle.word_tests.proofs.both_zero.Given as goal

abbrev pub invariant-loop-i : goal.invariant-loop-i
invariant-loop-i l = (l.i ≤ length l.s) × (all_zero l.s ≡ (eqb l.low 0 && all_zero (drop l.i l.s))) × (all_zero l.t ≡ (eqb l.high 0 && all_zero (drop l.i l.t)))
