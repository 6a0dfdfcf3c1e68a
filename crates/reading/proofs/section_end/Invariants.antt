use Prim.Native.Nat.{ℕ}
use mathlib.Core.List.{List}
use Rattle.unpacking.specs.AsWords.{AsWords}
use Rattle.reading.proofs.Streams.{Left}
use Rattle.reading.proofs.section_end.Given as goal

abbrev pub invariant-loop-after : goal.invariant-loop-after
invariant-loop-after g l = (ws : List ℕ) → AsWords l.bytes ws → Left g.R.RowEnds.kind l.cap ws l.at l.after l.next
