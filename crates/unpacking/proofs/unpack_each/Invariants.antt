use Prim.Native.Nat.{◌-◌, ◌*◌}
use Rattle.unpacking.proofs.Sections.{Unrolled}
use Rattle.unpacking.proofs.unpack_each.Given as goal

abbrev pub invariant-loop-i : goal.invariant-loop-i
invariant-loop-i l = Unrolled l.k l.w l.n l.bytes l.at l.initial.out l.out (l.n - l.i) (l.i * l.w) l.next
