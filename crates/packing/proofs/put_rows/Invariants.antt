use Prim.Native.Nat.{◌+◌, ◌-◌, ◌*◌}
use lib.ListN.{drop}
use Rattle.packing.specs.Packed.{rows_of}
use Rattle.packing.proofs.Nesteds.{Laying}
use Rattle.packing.proofs.put_rows.Given as goal

abbrev pub invariant-loop-i : goal.invariant-loop-i
invariant-loop-i l = Laying l.k l.t (rows_of l.k l.n (drop 1 l.t)) l.initial.out l.initial.next l.w l.out (l.n - l.i) l.next (1 + l.i * l.w)
