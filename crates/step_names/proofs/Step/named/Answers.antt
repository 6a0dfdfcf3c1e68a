use mathlib.Core.Path.{refl}
use native.Mathlib.Omega.{arith}
use Rattle.step_names.proofs.Turns.{named, passed, none_named}
use Rattle.step_names.specs.Table.{number_from}
use Rattle.step_names.proofs.Step.named.Goals as goal

pub loop-step-init : goal.loop-step-init
unfolding number_from
loop-step-init c = refl

pub returns-then-same_name-clause-named : goal.returns-then-same_name-clause-named
returns-then-same_name-clause-named c = named _ _ c.loop-step.step-index (omega arith) c.name.ensures c.loop-step.invariant c.if-same_name.ensures

pub loop-step-preserved : goal.loop-step-preserved
loop-step-preserved c = passed _ _ c.loop-step.step-index (omega arith) c.name.ensures c.loop-step.invariant c.if-same_name.ensures

pub returns-clause-none : goal.returns-clause-none
returns-clause-none c = none_named _ c.loop-step.step-index (omega arith) c.loop-step.invariant
