-- A table of fixed room in words: how many rows, the rows, and zeros to the end.
use Rattle.std.specs.Prelude.{ℕ, suc, ◌*◌, ◌≡◌, List, [], ◌∷◌, ◌++◌, Bool, true, cond, not, eqb, leb, ltb, length, get_or, take, drop, replicate, Option, None, Some}
use Rattle.rules.specs.Lists.{keep}
use Rattle.rules.specs.Table.{Entry}
use Rattle.rules.specs.WellFormed.{rising}
use Rattle.rules.specs.Snapshot.{rows_words, id_words}

-- the words of l and zeros after them, n words in all
unfoldable pub pad : ℕ → List ℕ → List ℕ
pad n l = take n (l ++ replicate n 0)

-- a table with room for cap rows of w words
abbrev pub table : {A : Type 0} → (A → List ℕ) → ℕ → ℕ → List A → List ℕ
table f w cap xs = length xs ∷ pad (cap * w) (rows_words f xs)

-- a list of ids is a table whose rows are one word
abbrev pub id_table : ℕ → List ℕ → List ℕ
id_table cap = table id_words 1 cap

module _ {A : Type 0} where
  -- one more at j, and without the one at j
  abbrev pub insert_at : List A → ℕ → A → List A
  insert_at xs j y = take j xs ++ y ∷ drop j xs

  abbrev pub remove_at : List A → ℕ → List A
  remove_at xs j = take j xs ++ drop (suc j) xs

  -- the keys rise strictly
  abbrev pub Rising : (A → ℕ) → List A → Type 0
  Rising key xs = rising (λ x y. ltb (key x) (key y)) xs ≡ true

  -- the first row that passes a test; past the end where none does
  unfoldable pub first_where : (A → Bool) → List A → ℕ
  first_where f [] = 0
  first_where f (x ∷ xs) = cond (f x) 0 (suc (first_where f xs))

  -- where a key stands, or goes: before the first row whose key is not below it
  abbrev pub place_of : (A → ℕ) → ℕ → List A → ℕ
  place_of key k = first_where (λ x. leb k (key x))

  -- the row of a key, where it has one
  abbrev pub find_row : (A → ℕ) → ℕ → List A → Option ℕ
  find_row key k xs = let i = first_where (λ x. eqb (key x) k) xs in cond (ltb i (length xs)) (Some i) None

  -- without the rows of a key
  abbrev pub without : (A → ℕ) → ℕ → List A → List A
  without key k = keep (λ x. not (eqb (key x) k))

-- any row of w words
pub record Row (w : ℕ) : Type 0 where
  pub words : List ℕ
  pub wide : length words ≡ w

abbrev pub words_in : {w : ℕ} → Row w → List ℕ
words_in r = r.words

-- a row's key is its first word
abbrev pub key_in : {w : ℕ} → Row w → ℕ
key_in r = get_or r.words 0 0

abbrev pub key_of : {A : Type 0} → Entry A → ℕ
key_of e = e.key
