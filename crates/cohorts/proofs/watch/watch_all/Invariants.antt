use Prim.Native.Nat.{◌-◌, ◌<◌}
use mathlib.Core.Path.{◌≡◌}
use mathlib.Core.Bool.{true}
use lib.ListN.{length, get_or}
use Rattle.rules.specs.Lists.{is_empty}
use Rattle.rules.specs.Board.{Board, most_seats, size_of}
use Rattle.rules.specs.WellFormed.{good_ids, well_formed}
use Rattle.rules.specs.Moves.{may_join}
use Rattle.rules.specs.Reshapes.{half_up}
use Rattle.board.specs.Held.{Holds, no_reshape}
use Rattle.reshapes.proofs.SeatMoves.{seats_in_row}
use Rattle.cohorts.proofs.Watches.{Watched}
use Rattle.cohorts.proofs.watch.watch_all.Given as goal

abbrev pub invariant-loop-k : goal.invariant-loop-k
invariant-loop-k l = (length l.board ≡ length l.initial.board)
    × ((b : Board) → Holds l.initial.board b → well_formed b ≡ true → l.i < length b.reshapes → (get_or b.reshapes l.i no_reshape).key ≡ l.target.0 → is_empty (seats_in_row l.i b) ≡ true
    → good_ids most_seats l.ids ≡ true → may_join l.target.0 l.ids b ≡ true → (l.half ≡ half_up (size_of b)) × Watched l.target.0 l.i l.ids b l.k l.board)
