use Prim.Native.Nat.{ℕ, ◌+◌, ◌≤◌, ◌<◌}
use mathlib.Core.Path.{◌≡◌}
use mathlib.Core.List.{List}
use lib.ListN.{length, get_or}
use Rattle.tables.specs.Rows.{table, Rising, Row, words_in, key_in}
use Rattle.tables.proofs.Tables.{no_row}
use Rattle.tables.proofs.find_row.Given as goal

-- a row of the key is one of the n from lo on
abbrev pub invariant-loop-n : goal.invariant-loop-n
invariant-loop-n l = (l.lo + l.n ≤ l.cap)
    × ((rs : List (Row l.w)) → l.t ≡ table words_in l.w l.cap rs → length rs ≤ l.cap → Rising key_in rs
    → (l.lo + l.n ≤ length rs) × ((i : ℕ) → i < length rs → key_in (get_or rs i (no_row l.w)) ≡ l.k → (l.lo ≤ i) × (i < l.lo + l.n)))

abbrev pub decreases-loop-n : goal.decreases-loop-n
decreases-loop-n l = l.n
