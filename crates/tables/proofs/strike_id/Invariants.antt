use Prim.Native.Nat.{ℕ, ◌≤◌}
use mathlib.Core.Path.{◌≡◌}
use mathlib.Core.List.{List}
use lib.ListN.{length}
use Rattle.tables.specs.Rows.{id_table}
use Rattle.tables.proofs.Sifted.{Striking}
use Rattle.tables.proofs.strike_id.Given as goal

abbrev pub invariant-loop-i : goal.invariant-loop-i
invariant-loop-i l = (l.k ≤ l.i) × (l.i ≤ l.n) × (l.n ≤ l.cap) × (length l.t ≡ length l.initial.t)
    × ((ids : List ℕ) → l.initial.t ≡ id_table l.cap ids → length ids ≤ l.cap → (l.n ≡ length ids) × Striking l.cap l.x ids l.t l.i l.k)
