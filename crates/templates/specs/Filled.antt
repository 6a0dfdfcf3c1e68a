-- A text with places for numbers: each run of '#' is the next number, right-aligned in a column as wide as the run; '~' passes
-- a number over.
use Rattle.std.specs.Prelude.{ℕ, zero, suc, cond, List, [], ◌∷◌, ◌++◌, eqb, get_or, drop}
use Rattle.lines.specs.Numeral.{numeral}

-- what a run of w stands for; 0 where the numbers have run out
unfoldable pub slot : ℕ → List ℕ → List ℕ
slot zero ns = []
slot (suc w) ns = numeral (suc w) (get_or ns 0 0)

unfoldable pub past : ℕ → List ℕ → List ℕ
past zero ns = ns
past (suc w) ns = drop 1 ns

-- after a run of w, so far
unfoldable pub filled_from : ℕ → List ℕ → List ℕ → List ℕ
filled_from w [] ns = slot w ns
filled_from w (c ∷ t) ns =
    cond (eqb c 35) (filled_from (suc w) t ns)
    (slot w ns ++ cond (eqb c 126) (filled_from 0 t (drop 1 (past w ns))) (c ∷ filled_from 0 t (past w ns)))

abbrev pub filled : List ℕ → List ℕ → List ℕ
filled t ns = filled_from 0 t ns
