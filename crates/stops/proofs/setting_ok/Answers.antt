use mathlib.Core.Path.{◌≡◌}
use native.Mathlib.Omega.{arith}
use Rattle.tables.proofs.Bools.{and_is}
use Rattle.stops.specs.Stop.{setting_tests}
use Rattle.stops.proofs.setting_ok.Goals as goal

pub returns-in-0 : goal.returns-in-0
unfolding setting_tests
returns-in-0 c = let e : c.args.i ≡ 0 = omega arith in rw e

pub returns-in-1 : goal.returns-in-1
unfolding setting_tests
returns-in-1 c = let e : c.args.i ≡ 1 = omega arith in rw e

pub returns-in-2 : goal.returns-in-2
unfolding setting_tests
returns-in-2 c = let e : c.args.i ≡ 2 = omega arith in rw e (and_is _ _)

pub returns-in-3 : goal.returns-in-3
unfolding setting_tests
returns-in-3 c = let e : c.args.i ≡ 3 = omega arith in rw e

pub returns-in-4 : goal.returns-in-4
unfolding setting_tests
returns-in-4 c = let e : c.args.i ≡ 4 = omega arith in rw e

pub returns-in-5 : goal.returns-in-5
unfolding setting_tests
returns-in-5 c = let e : c.args.i ≡ 5 = omega arith in rw e (and_is _ _)

pub returns-in_default : goal.returns-in_default
unfolding setting_tests
returns-in_default c = let e : c.args.i ≡ 6 = omega arith in rw e
