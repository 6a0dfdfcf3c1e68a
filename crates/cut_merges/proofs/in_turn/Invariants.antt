use mathlib.Core.List.{[]}
use Prim.Native.Nat.{◌≤◌}
use mathlib.Core.Path.{◌≡◌}
use mathlib.Core.Bool.{true}
use lib.ListN.{length}
use Rattle.rules.specs.Board.{Board}
use Rattle.rules.specs.WellFormed.{well_formed}
use Rattle.rules.specs.Cut.{cut_merge}
use Rattle.rules.proofs.KeptBoard.{Good}
use Rattle.board.specs.Held.{Holds}
use Rattle.batches.specs.Underway.{Underway}
use Rattle.cut_merges.proofs.in_turn.Given as goal

abbrev pub invariant-loop-target : goal.invariant-loop-target
invariant-loop-target l = (l.target-index ≤ length l.targets) × (l.handled ≤ l.target-index) × (length l.board ≡ length l.initial.board)
    × ((b : Board) → Holds l.initial.board b → well_formed b ≡ true → Underway cut_merge Good l.targets [] b l.target-index l.handled 0 l.board)
