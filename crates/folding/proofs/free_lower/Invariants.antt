use Prim.Native.Nat.{◌≤◌, ◌<◌}
use mathlib.Core.Path.{◌≡◌}
use lib.ListN.{length}
use Rattle.rules.specs.Board.{Board, on_committees}
use Rattle.board.specs.Held.{Holds}
use Rattle.folding.specs.Freed.{freed}
use Rattle.folding.proofs.free_lower.Given as goal

abbrev pub invariant-loop-i : goal.invariant-loop-i
invariant-loop-i l = (l.k ≤ l.i) × (l.i ≤ l.j) × (length l.ws ≡ length l.initial.ws) × ((b : Board) → Holds l.initial.ws b → l.j < length b.committees → Holds l.ws (on_committees (freed l.j l.i) b))
