use Prim.Native.Nat.{◌+◌, ◌≤◌, ◌<◌}
use mathlib.Core.Path.{◌≡◌}
use lib.ListN.{length, get_or, drop}
use Rattle.rules.specs.Lists.{count}
use Rattle.rules.specs.Table.{Entry, count_where}
use Rattle.rules.specs.Board.{Seat, Board, most_seats}
use Rattle.board.specs.Held.{Holds, no_reshape}
use Rattle.waits.specs.Counts.{is_for}
use Rattle.waits.proofs.seats_for.Given as goal

abbrev pub invariant-loop-k : goal.invariant-loop-k
invariant-loop-k l = (l.k ≤ l.n) × (l.n ≤ most_seats) × (l.r ≤ l.k)
    × ((b : Board) → Holds l.board b → l.i < length b.reshapes
    → (l.n ≡ length (get_or b.reshapes l.i no_reshape).val.seats)
    × (l.r + count (λ (e : Entry Seat). is_for l.child.0 e.val) (drop l.k (get_or b.reshapes l.i no_reshape).val.seats) ≡ count_where (is_for l.child.0) (get_or b.reshapes l.i no_reshape).val.seats))
