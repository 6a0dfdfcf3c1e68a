use Prim.Native.Nat.{◌+◌, ◌≤◌, ◌<◌}
use mathlib.Core.Path.{◌≡◌}
use lib.ListN.{length, get_or}
use Rattle.rules.specs.Board.{Board, most_seats}
use Rattle.tables.specs.Rows.{Rising, key_of}
use Rattle.board.specs.Layout.{board_size}
use Rattle.board.specs.Held.{Holds, no_reshape}
use Rattle.admissions.proofs.Opening.{Seating}
use Rattle.admissions.proofs.seating.seat_all.Given as goal

abbrev pub invariant-loop-k : goal.invariant-loop-k
invariant-loop-k l = (l.k ≤ length l.ids) × (length l.board ≡ board_size)
    × ((b : Board) → Holds l.initial.board b → l.i < length b.reshapes → Rising key_of (get_or b.reshapes l.i no_reshape).val.seats → length (get_or b.reshapes l.i no_reshape).val.seats + length l.ids ≤ most_seats
    → Seating l.i l.child.0 l.ids b l.k l.board)
