use Prim.Native.Nat.{◌+◌, ◌≤◌, ◌<◌}
use mathlib.Core.Path.{◌≡◌}
use mathlib.Core.Bool.{true}
use lib.ListN.{length, get_or, take}
use Rattle.rules.specs.Board.{Board, most_members}
use Rattle.rules.specs.WellFormed.{well_formed}
use Rattle.board.specs.Held.{Holds, no_committee}
use Rattle.gathering.specs.Gathered.{Ready, Waiting}
use Rattle.gathering.proofs.Gathers.{Filled}
use Rattle.gathering.proofs.gather_seated_at.Given as goal

abbrev pub invariant-loop-i : goal.invariant-loop-i
invariant-loop-i l = (l.i ≤ l.n) × (l.n ≤ most_members) × (l.counts.ready + l.counts.waiting ≤ l.i) × (length l.ready ≡ most_members) × (length l.waiting ≡ most_members)
    × ((b : Board) → Holds l.board b → well_formed b ≡ true → l.j < length b.committees →
    (l.n ≡ length (get_or b.committees l.j no_committee).val)
    × Filled Ready l.shard.0 b (get_or b.committees l.j no_committee).val (take l.counts.ready l.ready) l.i
    × Filled Waiting l.shard.0 b (get_or b.committees l.j no_committee).val (take l.counts.waiting l.waiting) l.i)
