-- What the rules ask of lists.
use Rattle.std.specs.Prelude.{ℕ, ◌+◌, List, [], ◌∷◌, Bool, true, false, cond, not, eqb, leb}

infixr 35 ◌and◌
infixr 30 ◌or◌
-- both say yes; at least one does
unfoldable pub ◌and◌ : Bool → Bool → Bool
true and c = c
false and c = false

unfoldable pub ◌or◌ : Bool → Bool → Bool
true or c = true
false or c = c

-- every test says yes
unfoldable pub all_of : List Bool → Bool
all_of [] = true
all_of (c ∷ cs) = c and all_of cs

-- 1 for yes, 0 for no
abbrev pub bit_of : Bool → ℕ
bit_of true = 1
bit_of false = 0

module _ {A : Type 0} where
  unfoldable pub every : (A → Bool) → List A → Bool
  every f [] = true
  every f (x ∷ l) = f x and every f l

  unfoldable pub any : (A → Bool) → List A → Bool
  any f [] = false
  any f (x ∷ l) = f x or any f l

  -- how many pass a test, and those that do
  unfoldable pub count : (A → Bool) → List A → ℕ
  count f [] = 0
  count f (x ∷ l) = bit_of (f x) + count f l

  unfoldable pub keep : (A → Bool) → List A → List A
  keep f [] = []
  keep f (x ∷ l) = cond (f x) (x ∷ keep f l) (keep f l)

  unfoldable pub is_empty : List A → Bool
  is_empty [] = true
  is_empty (x ∷ l) = false

-- a number stands in a list
unfoldable pub has : ℕ → List ℕ → Bool
has x = any (λ y. eqb y x)

unfoldable pub distinct : List ℕ → Bool
distinct [] = true
distinct (x ∷ l) = not (has x l) and distinct l

-- all but a number
unfoldable pub strike : ℕ → List ℕ → List ℕ
strike x = keep (λ y. not (eqb y x))

unfoldable pub insert : ℕ → List ℕ → List ℕ
insert x [] = x ∷ []
insert x (y ∷ l) = cond (leb x y) (x ∷ y ∷ l) (y ∷ insert x l)

-- by rising number
unfoldable pub sort : List ℕ → List ℕ
sort [] = []
sort (x ∷ l) = insert x (sort l)

-- the same numbers in the same places
unfoldable pub equal : List ℕ → List ℕ → Bool
equal [] [] = true
equal [] (y ∷ m) = false
equal (x ∷ l) [] = false
equal (x ∷ l) (y ∷ m) = eqb x y and equal l m
