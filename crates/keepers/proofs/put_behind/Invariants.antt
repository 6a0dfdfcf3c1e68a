use Prim.Native.Nat.{◌+◌, ◌-◌, ◌≤◌}
use lib.ListN.{length}
use Rattle.keepers.proofs.Drawing.{Behind}
use Rattle.keepers.proofs.put_behind.Given as goal

abbrev pub invariant-loop-i : goal.invariant-loop-i
invariant-loop-i l = (l.i ≤ length l.waiting) × (l.m + l.i ≤ length l.out) × Behind l.m l.waiting l.initial.out l.out l.i

abbrev pub decreases-loop-i : goal.decreases-loop-i
decreases-loop-i l = length l.waiting - l.i
