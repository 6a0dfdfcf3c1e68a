use Prim.Native.Nat.{◌+◌, ◌-◌, ◌≤◌, ◌<◌}
use mathlib.Core.Path.{◌≡◌}
use lib.ListN.{length, get_or, take}
use Rattle.rules.specs.Board.{Board, most_half}
use Rattle.board.specs.Held.{Holds, no_reshape}
use Rattle.reshapes.specs.Changes.{half_of}
use Rattle.halving.proofs.Halves.{With}
use Rattle.halving.proofs.store_half.Given as goal

abbrev pub invariant-loop-id : goal.invariant-loop-id
invariant-loop-id l = (l.id-index ≤ length l.half) × (length l.board ≡ length l.initial.board)
    × ((b : Board) → Holds l.initial.board b → (room : l.i < length b.reshapes) → length (half_of l.side (get_or b.reshapes l.i no_reshape).val) + length l.half ≤ most_half → Holds l.board (With b l.i room l.side (take l.id-index l.half)))
