-- The lines of a text.
use Rattle.std.specs.Prelude.{ℕ, zero, suc, ◌+◌, cond, List, [], ◌∷◌, eqb, length, drop}

-- the bytes before the first line end
unfoldable pub first_line : List ℕ → List ℕ
first_line [] = []
first_line (b ∷ t) = cond (eqb b 10) [] (b ∷ first_line t)

-- from 0 on
unfoldable pub line_of : ℕ → List ℕ → List ℕ
line_of zero t = first_line t
line_of (suc k) t = line_of k (drop (length (first_line t) + 1) t)
