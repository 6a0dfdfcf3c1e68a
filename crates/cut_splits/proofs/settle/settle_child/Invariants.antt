use mathlib.Core.List.{[]}
use Prim.Native.Nat.{◌+◌, ◌≤◌, ◌<◌}
use mathlib.Core.Path.{◌≡◌}
use mathlib.Core.Option.{some}
use mathlib.Core.Bool.{true}
use lib.ListN.{length}
use Rattle.rules.specs.Table.{at}
use Rattle.rules.specs.Board.{Board, most_seats, most_half}
use Rattle.rules.specs.WellFormed.{is_target, well_formed}
use Rattle.board.specs.Held.{Holds}
use Rattle.arriving.specs.Coming.{reshape_in}
use Rattle.cut_splits.specs.Settled.{child_of}
use Rattle.reshapes.specs.Changes.{half_of}
use Rattle.cut_splits.proofs.Children.{Filled}
use Rattle.cut_splits.proofs.settle.settle_child.Given as goal

abbrev pub invariant-loop-k : goal.invariant-loop-k
invariant-loop-k l = (l.k ≤ l.total) × (l.n ≤ most_half) × (l.total ≤ l.n + most_seats) × (length l.board ≡ length l.initial.board)
    × ((b : Board) → Holds l.initial.board b → well_formed b ≡ true → l.i < length b.reshapes → is_target l.target.0 ≡ true → at (child_of l.side l.target.0) b.committees ≡ some []
    → (l.n ≡ length (half_of l.side (reshape_in l.i b))) × (l.total ≡ l.n + length (reshape_in l.i b).seats) × Filled l.target.0 l.child.0 l.side l.i b l.k l.board)
