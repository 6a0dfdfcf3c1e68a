use Prim.Native.Nat.{◌+◌, ◌-◌, ◌*◌}
use Rattle.packing.proofs.Nesteds.{Counted}
use Rattle.packing.proofs.rows_size.Given as goal

abbrev pub invariant-loop-i : goal.invariant-loop-i
invariant-loop-i l = Counted l.k l.cap l.t l.w (l.n - l.i) (1 + l.i * l.w) l.size
