-- A number as text, and right-aligned in a column.
use Rattle.std.specs.Prelude.{ℕ, zero, suc, ◌-◌, ◌/◌, cond, List, ◌++◌, ltb, replicate}
use Rattle.io.specs.Digits.{last_digits}

-- how many decimal digits a number has, counted to one more than f
unfoldable pub places_to : ℕ → ℕ → ℕ
places_to zero n = 1
places_to (suc f) n = cond (ltb n 10) 1 (suc (places_to f (n / 10)))

-- a word has at most 20
abbrev pub places : ℕ → ℕ
places n = places_to 19 n

abbrev pub spaces : ℕ → List ℕ
spaces n = replicate n 32

-- right-aligned in a column, wider where the digits need it
unfoldable pub numeral : ℕ → ℕ → List ℕ
numeral width n = spaces (width - places n) ++ last_digits 10 (places n) n
