use Prim.Native.Nat.{◌-◌}
use lib.ListN.{length}
use Rattle.wiping.proofs.Room.{Wiped}
use Rattle.wiping.proofs.wipe.Given as goal

abbrev pub invariant-loop-t : goal.invariant-loop-t
invariant-loop-t l = Wiped l.initial.t l.t l.a

abbrev pub decreases-loop-t : goal.decreases-loop-t
decreases-loop-t l = length l.initial.t - l.a
