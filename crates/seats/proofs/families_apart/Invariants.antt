use Prim.Native.Nat.{◌-◌, ◌≤◌}
use mathlib.Core.Path.{◌≡◌}
use lib.ListN.{length, drop}
use Rattle.rules.specs.Table.{keys_of}
use Rattle.rules.specs.Board.{Board, most_reshapes}
use Rattle.rules.specs.SeatCheck.{families_apart}
use Rattle.board.specs.Held.{Holds}
use Rattle.seats.proofs.families_apart.Given as goal

abbrev pub invariant-loop-i : goal.invariant-loop-i
invariant-loop-i l = (l.i ≤ l.n) × (l.n ≤ most_reshapes)
    × ((b : Board) → Holds l.board b → (l.n ≡ length b.reshapes) × (families_apart (keys_of b.reshapes) ≡ families_apart (keys_of (drop l.i b.reshapes))))
