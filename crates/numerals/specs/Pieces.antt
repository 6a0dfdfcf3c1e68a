-- A text of numbers: its pieces, and what is read of them.
use Rattle.std.specs.Prelude.{ℕ, suc, ◌+◌, Bool, true, false, ◌||◌, cond, List, [], ◌∷◌, ◌++◌, eqb, ltb, length, Option, Some, None, Result, Ok, Err}
use Rattle.numerals.specs.declared.NumbersError.{NumbersError}
use Rattle.numerals.specs.declared.NumbersError.TheVariants.{NotANumber, TooMany}
use Rattle.numerals.specs.Decimal.{decimal_of}

-- what stands between numbers: tab, line ends, blank, comma
unfoldable pub between : ℕ → Bool
between b = eqb b 9 || eqb b 10 || eqb b 13 || eqb b 32 || eqb b 44

-- the bytes before the first that stands between numbers
unfoldable pub run_of : List ℕ → List ℕ
run_of [] = []
run_of (b ∷ l) = cond (between b) [] (b ∷ run_of l)

pub record Piece : Type 0 where
  pub place : ℕ
  pub bytes : List ℕ

-- a piece ends: one of no bytes is none
unfoldable pub ended : ℕ → List ℕ → List Piece → List Piece
ended place [] ps = ps
ended place (b ∷ p) ps = record { place = place; bytes = b ∷ p } ∷ ps

-- the pieces of a text, of which the first began at `place` and has the bytes p so far
unfoldable pub pieces : ℕ → List ℕ → List ℕ → List Piece
pieces place p [] = ended place p []
pieces place p (b ∷ l) = cond (between b) (ended place p (pieces (place + length p + 1) [] l)) (pieces place (p ++ b ∷ []) l)

abbrev pub pieces_of : List ℕ → List Piece
pieces_of text = pieces 0 [] text

-- the numbers of the pieces before the first that is none
unfoldable pub then : Option ℕ → List ℕ → List ℕ
then None l = []
then (Some v) l = v ∷ l

unfoldable pub numbers_of : List Piece → List ℕ
numbers_of [] = []
numbers_of (p ∷ ps) = then (decimal_of p.bytes) (numbers_of ps)

-- numbers laid over room, and cut at its end
unfoldable pub laid_over : List ℕ → List ℕ → List ℕ
laid_over [] out = out
laid_over (v ∷ l) [] = []
laid_over (v ∷ l) (o ∷ out) = v ∷ laid_over l out

-- how reading goes on after a piece: it is none, there is no room for it, or its number is taken
unfoldable pub goes_on : Option ℕ → ℕ → Bool → Result ℕ NumbersError → Result ℕ NumbersError
goes_on None place room r = Err (NotANumber place)
goes_on (Some v) place true r = r
goes_on (Some v) place false r = Err TooMany

-- how reading ends, where n numbers are read
unfoldable pub end_of : ℕ → ℕ → List Piece → Result ℕ NumbersError
end_of room n [] = Ok n
end_of room n (p ∷ ps) = goes_on (decimal_of p.bytes) p.place (ltb n room) (end_of room (suc n) ps)
