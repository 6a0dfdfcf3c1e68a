use Prim.Native.Nat.{◌+◌}
use mathlib.Core.Path.{◌≡◌}
use lib.ListN.{drop}
use Rattle.step_names.specs.Names.{place_among}
use Rattle.step_names.specs.Table.{number_from, names}
use Rattle.step_names.proofs.Step.named.Given as goal

abbrev pub invariant-loop-step : goal.invariant-loop-step
invariant-loop-step l = number_from 1 l.word ≡ place_among l.word (1 + l.step-index) (drop (1 + l.step-index) names)
