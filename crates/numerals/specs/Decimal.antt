-- The number that a text says.
use Rattle.std.specs.Prelude.{ℕ, ◌+◌, ◌-◌, ◌*◌, Bool, ◌&&◌, cond, List, [], ◌∷◌, leb, Option, Some, None}

abbrev pub last_number : ℕ
last_number = 18446744073709551615

-- the bytes 0 to 9
abbrev pub is_digit : ℕ → Bool
is_digit b = leb 48 b && leb b 57

-- the value of digits after v, the highest first; none where a byte is no digit
unfoldable pub value_from : ℕ → List ℕ → Option ℕ
value_from v [] = Some v
value_from v (b ∷ l) = cond (is_digit b) (value_from (v * 10 + (b - 48)) l) None

-- none where it is too large for a word
unfoldable pub in_word : Option ℕ → Option ℕ
in_word None = None
in_word (Some v) = cond (leb v last_number) (Some v) None

-- digits alone, at least one, of a value that a word holds
unfoldable pub decimal_of : List ℕ → Option ℕ
decimal_of [] = None
decimal_of (b ∷ l) = in_word (value_from 0 (b ∷ l))
