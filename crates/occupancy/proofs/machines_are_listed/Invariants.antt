use Prim.Native.Nat.{◌-◌, ◌≤◌}
use mathlib.Core.Path.{◌≡◌}
use mathlib.Core.Bool.{true}
use lib.ListN.{length, drop}
use Rattle.rules.specs.Lists.{every}
use Rattle.rules.specs.Board.{Board, most_machines}
use Rattle.rules.specs.WellFormed.{well_formed}
use Rattle.rules.specs.SeatCheck.{is_listed, machines_are_listed}
use Rattle.board.specs.Held.{Holds}
use Rattle.occupancy.proofs.machines_are_listed.Given as goal

abbrev pub invariant-loop-i : goal.invariant-loop-i
invariant-loop-i l = (l.i ≤ l.n) × (l.n ≤ most_machines)
    × ((b : Board) → Holds l.board b → well_formed b ≡ true → (l.n ≡ length b.machines) × (machines_are_listed b ≡ every (λ e. is_listed b e.key e.val) (drop l.i b.machines)))
