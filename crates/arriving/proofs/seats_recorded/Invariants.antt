use Prim.Native.Nat.{◌-◌, ◌≤◌, ◌<◌}
use mathlib.Core.Path.{◌≡◌}
use mathlib.Core.Bool.{true}
use lib.ListN.{length, drop}
use Rattle.rules.specs.Lists.{every}
use Rattle.rules.specs.Table.{keys_of}
use Rattle.rules.specs.Board.{Board, most_seats}
use Rattle.rules.specs.WellFormed.{well_formed}
use Rattle.board.specs.Held.{Holds}
use Rattle.arriving.specs.Coming.{reshape_in}
use Rattle.arriving.proofs.Lists.{known}
use Rattle.arriving.proofs.seats_recorded.Given as goal

abbrev pub invariant-loop-k : goal.invariant-loop-k
invariant-loop-k l = (l.k ≤ l.n) × (l.n ≤ most_seats)
    × ((b : Board) → Holds l.board b → well_formed b ≡ true → l.i < length b.reshapes
    → (l.n ≡ length (reshape_in l.i b).seats) × (every (known b) (keys_of (reshape_in l.i b).seats) ≡ every (known b) (keys_of (drop l.k (reshape_in l.i b).seats))))
