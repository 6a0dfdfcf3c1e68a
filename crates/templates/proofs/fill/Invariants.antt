use Prim.Native.Nat.{◌+◌, ◌*◌, ◌-◌, min}
use lib.ListN.{length}
use Rattle.templates.proofs.Fills.{Filling}
use Rattle.templates.proofs.fill.Given as goal

abbrev pub invariant-loop-i : goal.invariant-loop-i
invariant-loop-i l = Filling l.initial.line l.at l.template l.numbers l.line l.a l.k l.w l.i

abbrev pub decreases-loop-i : goal.decreases-loop-i
decreases-loop-i l = 2 * (length l.template - l.i) + min 1 l.w
