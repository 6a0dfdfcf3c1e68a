use Prim.Native.Nat.{◌-◌, ◌<◌}
use mathlib.Core.Path.{◌≡◌}
use mathlib.Core.List.{List}
use Rattle.tables.specs.Rows.{Row}
use Rattle.differences.specs.Differ.{TableOf, from, differ}
use Rattle.differences.proofs.next_difference.Given as goal

abbrev pub invariant-loop-k : goal.invariant-loop-k
invariant-loop-k l = 0 < l.w → (rs qs : List (Row l.w)) → TableOf l.w l.a rs → TableOf l.w l.b qs → differ l.pairs l.k l.l (from l.k rs) (from l.l qs) ≡ differ l.pairs l.i l.j (from l.i rs) (from l.j qs)

abbrev pub decreases-loop-k : goal.decreases-loop-k
decreases-loop-k l = l.n - l.k
