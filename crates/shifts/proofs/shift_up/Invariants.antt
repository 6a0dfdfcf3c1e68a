use Prim.Native.Nat.{◌+◌, ◌≤◌}
use mathlib.Core.Path.{◌≡◌}
use lib.ListN.{length}
use Rattle.shifts.specs.Moved.{moved_up}
use Rattle.shifts.proofs.shift_up.Given as goal

abbrev pub invariant-loop-k : goal.invariant-loop-k
invariant-loop-k l = (l.from ≤ l.k) × (l.k ≤ l.initial.k) × (l.initial.k + l.by ≤ length l.initial.t) × (length l.t ≡ length l.initial.t) × (l.t ≡ moved_up l.initial.t l.k l.initial.k l.by)
