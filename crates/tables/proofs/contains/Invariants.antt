use Prim.Native.Nat.{ℕ, ◌≤◌}
use mathlib.Core.Path.{◌≡◌}
use mathlib.Core.List.{List}
use lib.ListN.{length, take}
use Rattle.rules.specs.Lists.{has}
use Rattle.tables.specs.Rows.{id_table}
use Rattle.tables.proofs.contains.Given as goal

abbrev pub invariant-loop-i : goal.invariant-loop-i
invariant-loop-i l = (l.i ≤ l.n) × (l.n ≤ l.cap) × ((ids : List ℕ) → l.t ≡ id_table l.cap ids → length ids ≤ l.cap → (l.n ≡ length ids) × (l.found ≡ has l.x (take l.i ids)))
