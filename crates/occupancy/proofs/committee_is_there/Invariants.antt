use Prim.Native.Nat.{◌-◌, ◌≤◌, ◌<◌}
use mathlib.Core.Path.{◌≡◌}
use mathlib.Core.Bool.{true}
use lib.ListN.{length, get_or, drop}
use Rattle.rules.specs.Lists.{every}
use Rattle.rules.specs.Board.{Board, most_members}
use Rattle.rules.specs.WellFormed.{well_formed}
use Rattle.rules.specs.Moves.{says}
use Rattle.board.specs.Held.{Holds, no_committee}
use Rattle.occupancy.specs.Rows.{is_here, committee_is_there}
use Rattle.occupancy.proofs.committee_is_there.Given as goal

abbrev pub invariant-loop-k : goal.invariant-loop-k
invariant-loop-k l = (l.k ≤ l.n) × (l.n ≤ most_members)
    × ((b : Board) → Holds l.board b → well_formed b ≡ true → l.j < length b.committees
    → (l.n ≡ length (get_or b.committees l.j no_committee).val)
    × (committee_is_there b (get_or b.committees l.j no_committee)
    ≡ every (says (is_here (get_or b.committees l.j no_committee).key) b) (drop l.k (get_or b.committees l.j no_committee).val)))
