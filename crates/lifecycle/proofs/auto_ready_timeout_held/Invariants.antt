use Prim.Native.Nat.{◌≤◌}
use mathlib.Core.Path.{◌≡◌}
use lib.ListN.{length}
use Rattle.rules.specs.Board.{Board, most_machines}
use Rattle.board.specs.Held.{Holds}
use Rattle.lifecycle.proofs.Ages.{SoFar}
use Rattle.lifecycle.proofs.auto_ready_timeout_held.Given as goal

abbrev pub invariant-loop-i : goal.invariant-loop-i
invariant-loop-i l = (l.i ≤ l.n) × (l.n ≤ most_machines) × (l.k ≤ l.i) × (length l.board ≡ length l.initial.board) × ((b : Board) → Holds l.initial.board b → SoFar b l.epoch.0 l.wait l.n l.k l.i l.board)
