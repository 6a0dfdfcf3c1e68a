-- What a difference says of two lists of rows whose keys rise: the rows before it are the same in both, and its key stands in one alone, or in both with other words.
use Rattle.std.specs.Prelude.{ℕ, ◌+◌, ◌≡◌, Bool, true, false, not, List, ◌∷◌, ◌++◌, eqb, length, Option, Some, None}
use Rattle.rules.specs.Lists.{◌and◌, ◌or◌, any, equal}
use Rattle.word_tests.specs.Tests.{at}
use Rattle.differences.specs.declared.Difference.{Difference}
use Rattle.differences.specs.declared.Difference.TheVariants.{Gone, New, Changed}

-- the first words are the same and, of rows in pairs, the second ones too
unfoldable pub same_key : Bool → List ℕ → List ℕ → Bool
same_key pairs r q = eqb (at r 0) (at q 0) and (not pairs or eqb (at r 1) (at q 1))

-- row k of the first list, from i on; it would stand at l of the second, from j on, which has no row of its key
pub record Alone (pairs : Bool) (i j : ℕ) (rs qs : List (List ℕ)) (k l : ℕ) : Type 0 where
  pub both : List (List ℕ)
  pub row : List ℕ
  pub after : List (List ℕ)
  pub others : List (List ℕ)
  pub first : rs ≡ both ++ row ∷ after
  pub second : qs ≡ both ++ others
  pub place : k ≡ i + length both
  pub there : l ≡ j + length both
  pub alone : any (same_key pairs row) qs ≡ false

-- rows k and l have one key and other words
pub record Other (pairs : Bool) (i j : ℕ) (rs qs : List (List ℕ)) (k l : ℕ) : Type 0 where
  pub both : List (List ℕ)
  pub row : List ℕ
  pub after : List (List ℕ)
  pub other : List ℕ
  pub others : List (List ℕ)
  pub first : rs ≡ both ++ row ∷ after
  pub second : qs ≡ both ++ other ∷ others
  pub place : k ≡ i + length both
  pub there : l ≡ j + length both
  pub key : same_key pairs row other ≡ true
  pub words : equal row other ≡ false

abbrev pub Found : Bool → ℕ → ℕ → List (List ℕ) → List (List ℕ) → Option Difference → Type 0
Found pairs i j rs qs (Some (Gone k l)) = Alone pairs i j rs qs k l
Found pairs i j rs qs (Some (New k l)) = Alone pairs j i qs rs l k
Found pairs i j rs qs (Some (Changed k l)) = Other pairs i j rs qs k l
Found pairs i j rs qs None = rs ≡ qs
