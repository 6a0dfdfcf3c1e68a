use Prim.Native.Nat.{◌-◌, ◌≤◌, ◌<◌}
use mathlib.Core.Path.{◌≡◌}
use mathlib.Core.Bool.{true}
use lib.ListN.{length}
use Rattle.rules.specs.Board.{Board, most_seats}
use Rattle.rules.specs.WellFormed.{well_formed}
use Rattle.board.specs.Held.{Holds}
use Rattle.reshapes.proofs.SeatMoves.{seats_in_row}
use Rattle.lapses.proofs.Lapses.{Gone}
use Rattle.lapses.proofs.send_all_back.Given as goal

abbrev pub invariant-loop-k : goal.invariant-loop-k
invariant-loop-k l = (l.k ≤ l.n) × (l.n ≤ most_seats) × (l.r ≤ l.k) × (length l.board ≡ length l.initial.board)
    × ((b : Board) → Holds l.initial.board b → well_formed b ≡ true → l.i < length b.reshapes → (l.n ≡ length (seats_in_row l.i b)) × Gone l.target.0 l.i b l.k l.r l.board)
