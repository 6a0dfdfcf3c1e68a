use Prim.Native.Nat.{◌≤◌, ◌<◌}
use mathlib.Core.Path.{◌≡◌}
use mathlib.Core.Bool.{true}
use lib.ListN.{length, drop}
use Rattle.rules.specs.Lists.{every}
use Rattle.rules.specs.Board.{Board, most_half}
use Rattle.rules.specs.WellFormed.{well_formed}
use Rattle.board.specs.Held.{Holds}
use Rattle.arriving.specs.Coming.{reshape_in}
use Rattle.arriving.proofs.Lists.{known}
use Rattle.reshapes.specs.Changes.{half_of}
use Rattle.cut_splits.proofs.halves.half_recorded.Given as goal

abbrev pub invariant-loop-k : goal.invariant-loop-k
invariant-loop-k l = (l.k ≤ l.n) × (l.n ≤ most_half)
    × ((b : Board) → Holds l.board b → well_formed b ≡ true → l.i < length b.reshapes
    → (l.n ≡ length (half_of l.side (reshape_in l.i b))) × (every (known b) (half_of l.side (reshape_in l.i b)) ≡ every (known b) (drop l.k (half_of l.side (reshape_in l.i b)))))
