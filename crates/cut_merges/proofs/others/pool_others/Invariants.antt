use Prim.Native.Nat.{◌≤◌, ◌<◌}
use mathlib.Core.Path.{◌≡◌}
use mathlib.Core.Bool.{true}
use lib.ListN.{length, get_or}
use Rattle.rules.specs.Board.{Board, most_members}
use Rattle.rules.specs.WellFormed.{well_formed}
use Rattle.board.specs.Held.{Holds, no_committee}
use Rattle.cut_merges.proofs.Drains.{Drained}
use Rattle.cut_merges.proofs.others.pool_others.Given as goal

abbrev pub invariant-loop-k : goal.invariant-loop-k
invariant-loop-k l = (l.k ≤ l.n) × (l.n ≤ most_members) × (length l.board ≡ length l.initial.board)
    × ((b : Board) → Holds l.initial.board b → well_formed b ≡ true → l.i < length b.reshapes → (l.n ≡ length (get_or b.committees l.j no_committee).val) × Drained l.i l.j b l.k l.board)
