use Prim.Native.Nat.{◌-◌, ◌≤◌, ◌<◌}
use mathlib.Core.Path.{◌≡◌}
use mathlib.Core.Bool.{true}
use lib.ListN.{length, get_or, drop}
use Rattle.types.specs.Places.{observes}
use Rattle.rules.specs.Lists.{every}
use Rattle.rules.specs.Table.{keys_of}
use Rattle.rules.specs.Board.{Board, most_seats}
use Rattle.rules.specs.WellFormed.{well_formed}
use Rattle.rules.specs.Moves.{says}
use Rattle.board.specs.Held.{Holds, no_reshape}
use Rattle.occupancy.specs.Rows.{cohort_watches}
use Rattle.occupancy.proofs.cohort_watches.Given as goal

abbrev pub invariant-loop-k : goal.invariant-loop-k
invariant-loop-k l = (l.k ≤ l.n) × (l.n ≤ most_seats)
    × ((b : Board) → Holds l.board b → well_formed b ≡ true → l.i < length b.reshapes
    → (l.n ≡ length (get_or b.reshapes l.i no_reshape).val.seats)
    × (cohort_watches b (get_or b.reshapes l.i no_reshape)
    ≡ every (says (observes (get_or b.reshapes l.i no_reshape).key) b) (keys_of (drop l.k (get_or b.reshapes l.i no_reshape).val.seats))))
