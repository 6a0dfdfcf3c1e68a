use Prim.Native.Nat.{◌≤◌}
use mathlib.Core.Path.{◌≡◌}
use lib.ListN.{get_or}
use Rattle.sections.specs.Tables.{count_in}
use Rattle.sections.proofs.count_with.Given as goal

abbrev pub invariant-loop-i : goal.invariant-loop-i
invariant-loop-i l = (l.i ≤ l.all) × (l.n ≤ l.i) × (l.all ≡ get_or l.t 0 0) × (l.n ≡ count_in l.w l.k l.x l.t l.i)
