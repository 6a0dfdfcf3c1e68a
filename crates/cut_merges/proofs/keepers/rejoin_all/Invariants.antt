use mathlib.Core.List.{[]}
use Prim.Native.Nat.{◌≤◌, ◌<◌}
use mathlib.Core.Path.{◌≡◌}
use mathlib.Core.Option.{some}
use mathlib.Core.Bool.{true}
use lib.ListN.{length}
use Rattle.rules.specs.Table.{at}
use Rattle.rules.specs.Board.{Board, most_seats}
use Rattle.rules.specs.WellFormed.{is_target, well_formed}
use Rattle.board.specs.Held.{Holds}
use Rattle.arriving.specs.Coming.{reshape_in}
use Rattle.cut_merges.proofs.Rejoins.{Joined}
use Rattle.cut_merges.proofs.keepers.rejoin_all.Given as goal

abbrev pub invariant-loop-k : goal.invariant-loop-k
invariant-loop-k l = (l.k ≤ l.n) × (l.n ≤ most_seats) × (length l.board ≡ length l.initial.board)
    × ((b : Board) → Holds l.initial.board b → well_formed b ≡ true → l.i < length b.reshapes → is_target l.target.0 ≡ true → at l.target.0 b.committees ≡ some []
    → (l.n ≡ length (reshape_in l.i b).seats) × Joined l.target.0 l.i b l.k l.board)
