use Prim.Native.Nat.{◌+◌, ◌-◌, ◌≤◌, ◌<◌}
use mathlib.Core.Path.{◌≡◌}
use mathlib.Core.Bool.{not}
use lib.ListN.{length, get_or, drop}
use Rattle.rules.specs.Lists.{every}
use Rattle.rules.specs.Table.{keys_of}
use Rattle.rules.specs.Board.{Board, most_reshapes}
use Rattle.rules.specs.Moves.{overlaps}
use Rattle.board.specs.Held.{Holds, no_reshape}
use Rattle.seats.specs.Rows.{is_family_apart}
use Rattle.seats.proofs.is_family_apart.Given as goal

abbrev pub invariant-loop-k : goal.invariant-loop-k
invariant-loop-k l = (l.n ≤ most_reshapes)
    × ((b : Board) → Holds l.board b → l.i < length b.reshapes
    → (l.n ≡ length b.reshapes)
    × (is_family_apart (get_or b.reshapes l.i no_reshape) (drop (l.i + 1) b.reshapes) ≡ every (λ u. not (overlaps (get_or b.reshapes l.i no_reshape).key u)) (keys_of (drop l.k b.reshapes))))
