use Prim.Native.Nat.{◌-◌, ◌≤◌}
use mathlib.Core.Path.{◌≡◌}
use mathlib.Core.Bool.{true}
use lib.ListN.{length}
use Rattle.rules.specs.Board.{split, Board}
use Rattle.rules.specs.WellFormed.{well_formed}
use Rattle.rules.specs.Schedule.{unscheduled}
use Rattle.board.specs.Held.{Holds}
use Rattle.schedule_splits.proofs.Turns.{Run}
use Rattle.schedule_splits.proofs.in_turn.Given as goal

abbrev pub invariant-loop-target : goal.invariant-loop-target
invariant-loop-target l = (l.target-index ≤ length l.targets) × (l.handled ≤ l.target-index) × (l.at.at ≤ length l.draws) × (length l.board ≡ length l.initial.board)
    × ((b : Board) → Holds l.initial.board b → well_formed b ≡ true → l.targets ≡ unscheduled split b → Run l.targets l.draws b l.target-index l.handled l.at.at l.board)
