use Prim.Native.Nat.{max, ◌≤◌, ◌<◌}
use mathlib.Core.Path.{◌≡◌}
use mathlib.Core.Bool.{true}
use lib.ListN.{length, get_or}
use Rattle.rules.specs.Board.{Board, most_members}
use Rattle.rules.specs.WellFormed.{well_formed}
use Rattle.rules.specs.Moves.{says}
use Rattle.board.specs.Held.{Holds, no_committee}
use Rattle.occupancy.specs.Rows.{is_here}
use Rattle.faults.proofs.Seeking.{Seeks}
use Rattle.faults.proofs.next_stray_member.Given as goal

abbrev pub invariant-loop-k : goal.invariant-loop-k
invariant-loop-k l = (l.k ≤ max l.at l.n) × (l.n ≤ most_members) × ((b : Board) → Holds l.board b → well_formed b ≡ true → l.j < length b.committees → Seeks (says (is_here (get_or b.committees l.j no_committee).key) b) (get_or b.committees l.j no_committee).val l.at l.n l.k)
