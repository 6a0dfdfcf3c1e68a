use Prim.Native.Nat.{ℕ}
use mathlib.Core.Path.{◌≡◌}
use mathlib.Core.List.{List}
use lib.ListN.{drop}
use Rattle.unpacking.specs.AsWords.{AsWords}
use Rattle.stops.specs.Stop.{setting_tests, tests_reading}
use Rattle.stops.proofs.settings.Given as goal

abbrev pub invariant-loop-i : goal.invariant-loop-i
invariant-loop-i l = (ws : List ℕ) → AsWords l.bytes ws → tests_reading (drop l.i setting_tests) l.i (drop l.i ws) ≡ tests_reading setting_tests 0 ws
