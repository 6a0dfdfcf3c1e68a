use Prim.Native.Nat.{ℕ, ◌+◌, ◌*◌, ◌/◌, ◌≤◌}
use mathlib.Core.List.{List}
use lib.ListN.{length}
use Rattle.rules.specs.Board.{most_machines}
use Rattle.board.specs.Layout.{machine_width}
use Rattle.row_tests.specs.declared.RowKind.TheVariants.{Machines}
use Rattle.unpacking.specs.AsWords.{AsWords}
use Rattle.reading.proofs.Streams.{Left}
use Rattle.reading.proofs.machines_end.Given as goal

abbrev pub invariant-loop-after : goal.invariant-loop-after
invariant-loop-after l = (l.next + l.after * machine_width ≤ length l.bytes / 8) × ((ws : List ℕ) → AsWords l.bytes ws → Left Machines most_machines ws l.at l.after l.next)
