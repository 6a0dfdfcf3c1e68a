use Prim.Native.Nat.{◌≤◌}
use mathlib.Core.Path.{◌≡◌}
use lib.ListN.{length}
use Rattle.shifts.specs.Moved.{moved_down}
use Rattle.shifts.proofs.shift_down.Given as goal

abbrev pub invariant-loop-k : goal.invariant-loop-k
invariant-loop-k l = (l.initial.k ≤ l.k) × (l.k ≤ l.to) × (l.by ≤ l.initial.k) × (l.to ≤ length l.initial.t) × (length l.t ≡ length l.initial.t) × (l.t ≡ moved_down l.initial.t l.initial.k l.k l.by)
