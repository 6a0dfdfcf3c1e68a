use Prim.Native.Nat.{◌-◌, ◌≤◌}
use mathlib.Core.Path.{◌≡◌}
use mathlib.Core.List.{List}
use lib.ListN.{length}
use Rattle.tables.specs.Rows.{table, Rising, place_of, Row, words_in, key_in}
use Rattle.tables.proofs.place_of.Given as goal

abbrev pub invariant-loop-lo : goal.invariant-loop-lo
invariant-loop-lo l = (l.lo ≤ l.hi) × (l.hi ≤ l.cap)
    × ((rs : List (Row l.w)) → l.t ≡ table words_in l.w l.cap rs → length rs ≤ l.cap → Rising key_in rs → (l.hi ≤ length rs) × (l.lo ≤ place_of key_in l.k rs) × (place_of key_in l.k rs ≤ l.hi))

abbrev pub decreases-loop-lo : goal.decreases-loop-lo
decreases-loop-lo l = l.hi - l.lo
