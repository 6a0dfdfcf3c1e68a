use Prim.Native.Nat.{◌-◌, ◌≤◌}
use mathlib.Core.Path.{◌≡◌}
use mathlib.Core.Bool.{true}
use lib.ListN.{length, drop}
use Rattle.rules.specs.Board.{Board, most_rotations}
use Rattle.rules.specs.WellFormed.{well_formed}
use Rattle.rules.specs.SeatCheck.{rotations_fit}
use Rattle.board.specs.Held.{Holds}
use Rattle.parties.proofs.Pairs.{pairwise}
use Rattle.parties.proofs.rotations_fit.Given as goal

abbrev pub invariant-loop-i : goal.invariant-loop-i
invariant-loop-i l = (l.i ≤ l.n) × (l.n ≤ most_rotations)
    × ((b : Board) → Holds l.board b → well_formed b ≡ true → (l.n ≡ length b.rotations) × (rotations_fit b ≡ pairwise b (drop l.i b.rotations)))
