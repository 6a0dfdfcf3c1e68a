-- The next difference of two tables, by key.
use Rattle.std.specs.Prelude.{ℕ, ◌+◌, ◌≤◌, ◌≡◌, Bool, cond, List, [], ◌∷◌, map, length, drop, Option, Some, None}
use Rattle.rules.specs.Lists.{equal}
use Rattle.tables.specs.Rows.{table, Row, words_in}
use Rattle.word_tests.specs.Tests.{rises}
use Rattle.differences.specs.declared.Difference.{Difference}
use Rattle.differences.specs.declared.Difference.TheVariants.{Gone, New, Changed}

-- words that are a table of rows, of any room
pub record TableOf (w : ℕ) (t : List ℕ) (rs : List (Row w)) : Type 0 where
  pub cap : ℕ
  pub words : t ≡ table words_in w cap rs
  pub room : length rs ≤ cap

-- the words of the rows from i on
unfoldable pub from : {w : ℕ} → ℕ → List (Row w) → List (List ℕ)
from i rs = map words_in (drop i rs)

-- rows i and j are the first of both: one has a key that the other comes after, or both have one key and other words
unfoldable pub differ : Bool → ℕ → ℕ → List (List ℕ) → List (List ℕ) → Option Difference
differ pairs i j [] [] = None
differ pairs i j [] (q ∷ qs) = Some (New i j)
differ pairs i j (r ∷ rs) [] = Some (Gone i j)
differ pairs i j (r ∷ rs) (q ∷ qs) =
    cond (rises pairs r q) (Some (Gone i j))
    (cond (rises pairs q r) (Some (New i j))
    (cond (equal r q) (differ pairs (i + 1) (j + 1) rs qs) (Some (Changed i j))))
