use Prim.Native.Nat.{ℕ}
use mathlib.Core.Path.{◌≡◌}
use mathlib.Core.List.{List}
use Rattle.unpacking.specs.AsWords.{AsWords}
use Rattle.stops.specs.Stop.{rows_reading, section_reading}
use Rattle.stops.proofs.section.Given as goal

abbrev pub invariant-loop-after : goal.invariant-loop-after
invariant-loop-after l = (ws : List ℕ) → AsWords l.bytes ws → rows_reading l.k ws l.after l.next ≡ section_reading l.k l.cap ws l.at
