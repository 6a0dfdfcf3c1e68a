use Prim.Native.Nat.{◌≤◌}
use mathlib.Core.Path.{◌≡◌}
use mathlib.Core.List.{List}
use lib.ListN.{length}
use Rattle.tables.specs.Rows.{table, Row, words_in}
use Rattle.tables.proofs.Drops.{Tried}
use Rattle.tables.proofs.drop_rows.Given as goal

abbrev pub invariant-loop-i : goal.invariant-loop-i
invariant-loop-i l = (l.k ≤ l.i) × (l.i ≤ l.n) × (l.n ≤ l.cap) × (length l.t ≡ length l.initial.t)
    × ((rs : List (Row l.w)) → l.initial.t ≡ table words_in l.w l.cap rs → length rs ≤ l.cap → (l.n ≡ length rs) × Tried l.cap l.x rs l.t l.i l.k)
