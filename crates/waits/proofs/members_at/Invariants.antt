use Prim.Native.Nat.{◌+◌, ◌≤◌, ◌<◌}
use mathlib.Core.Path.{◌≡◌}
use mathlib.Core.Bool.{true}
use lib.ListN.{length, get_or, drop}
use Rattle.types.specs.Places.{is_seated_on}
use Rattle.rules.specs.Lists.{count}
use Rattle.rules.specs.Board.{Board, most_members}
use Rattle.rules.specs.WellFormed.{well_formed}
use Rattle.rules.specs.Moves.{says}
use Rattle.board.specs.Held.{Holds, no_committee}
use Rattle.waits.specs.Counts.{is_ready_on}
use Rattle.waits.proofs.members_at.Given as goal

abbrev pub invariant-loop-k : goal.invariant-loop-k
invariant-loop-k l = (l.k ≤ l.n) × (l.n ≤ most_members) × (l.seated ≤ l.k) × (l.ready ≤ l.k)
    × ((b : Board) → Holds l.board b → well_formed b ≡ true → l.j < length b.committees
    → (l.n ≡ length (get_or b.committees l.j no_committee).val)
    × (l.seated + count (says (is_seated_on l.shard.0) b) (drop l.k (get_or b.committees l.j no_committee).val) ≡ count (says (is_seated_on l.shard.0) b) (get_or b.committees l.j no_committee).val)
    × (l.ready + count (says (is_ready_on l.shard.0) b) (drop l.k (get_or b.committees l.j no_committee).val) ≡ count (says (is_ready_on l.shard.0) b) (get_or b.committees l.j no_committee).val))
