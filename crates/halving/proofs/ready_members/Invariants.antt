use Prim.Native.Nat.{◌+◌, ◌-◌, ◌≤◌}
use mathlib.Core.Path.{◌≡◌}
use mathlib.Core.Bool.{true}
use lib.ListN.{length, drop}
use Rattle.types.specs.Places.{is_ready}
use Rattle.rules.specs.Lists.{count}
use Rattle.rules.specs.Board.{Board}
use Rattle.rules.specs.WellFormed.{well_formed}
use Rattle.rules.specs.Moves.{says}
use Rattle.board.specs.Held.{Holds}
use Rattle.halving.proofs.ready_members.Given as goal

abbrev pub invariant-loop-id : goal.invariant-loop-id
invariant-loop-id l = (l.id-index ≤ length l.ids) × (l.ready ≤ l.id-index)
    × ((b : Board) → Holds l.board b → well_formed b ≡ true → l.ready + count (says is_ready b) (drop l.id-index l.ids) ≡ count (says is_ready b) l.ids)
