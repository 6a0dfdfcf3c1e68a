use Prim.Native.Nat.{◌+◌, ◌≤◌}
use mathlib.Core.Path.{◌≡◌}
use mathlib.Core.List.{List}
use lib.Dec.{eqb}
use lib.ListN.{length, drop}
use Rattle.tables.specs.Rows.{table, Row, words_in, key_in, first_where}
use Rattle.tables.proofs.find_among_few.Given as goal

-- the first row of the key is the first from i on
abbrev pub invariant-loop-i : goal.invariant-loop-i
invariant-loop-i l = (rs : List (Row l.w)) → l.t ≡ table words_in l.w l.cap rs → length rs ≤ l.cap
    → (l.n ≡ length rs) × (l.i + first_where (λ x. eqb (key_in x) l.k) (drop l.i rs) ≡ first_where (λ x. eqb (key_in x) l.k) rs)
