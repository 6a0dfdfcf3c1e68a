use Prim.Native.Nat.{max, ◌≤◌, ◌<◌}
use mathlib.Core.Bool.{not}
use lib.ListN.{length, get_or}
use Rattle.rules.specs.Board.{Board, most_rotations}
use Rattle.board.specs.Held.{Holds, no_rotation}
use Rattle.parties.specs.Pairs.{share_party}
use Rattle.faults.proofs.Seeking.{Seeks}
use Rattle.faults.proofs.next_sharing_rotation.Given as goal

abbrev pub invariant-loop-k : goal.invariant-loop-k
invariant-loop-k l = (l.k ≤ max l.at l.n) × (l.n ≤ most_rotations) × ((b : Board) → Holds l.board b → l.i < length b.rotations → Seeks (λ q. not (share_party (get_or b.rotations l.i no_rotation) q)) b.rotations l.at l.n l.k)
