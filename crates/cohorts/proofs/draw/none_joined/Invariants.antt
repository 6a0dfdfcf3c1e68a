use Prim.Native.Nat.{ℕ, ◌-◌, ◌≤◌, ◌<◌}
use mathlib.Core.Path.{◌≡◌}
use mathlib.Core.Bool.{Bool, not}
use lib.ListN.{length, get_or, drop}
use Rattle.rules.specs.Lists.{every, has}
use Rattle.rules.specs.Board.{Board}
use Rattle.board.specs.Held.{Holds, no_committee}
use Rattle.cohorts.proofs.draw.none_joined.Given as goal

abbrev pub is_new : ℕ → Board → ℕ → Bool
is_new j b x = not (has x (get_or b.committees j no_committee).val)

abbrev pub invariant-loop-id : goal.invariant-loop-id
invariant-loop-id l = (l.id-index ≤ length l.ids) × ((b : Board) → Holds l.board b → l.j < length b.committees → every (is_new l.j b) (drop l.id-index l.ids) ≡ every (is_new l.j b) l.ids)
