-- What a function on any rows says of a table of values: their words are the rows.
use Prim.Native.Nat.{ℕ, zero, suc, ◌≤◌, ◌<◌}
use mathlib.Core.Path.{◌≡◌, refl, ap, sym, ◌∙◌}
use mathlib.Core.List.{List, [], ◌∷◌, ◌++◌, map}
use Rattle.std.specs.Prelude.{Option}
use mathlib.Core.Bool.{Bool, true, false, cond, not}
use native.Mathlib.Omega.{arith}
use lib.Dec.{eqb, leb, ltb}
use lib.ListN.{length, length-map, get_or, replicate}
use Rattle.rules.specs.Lists.{keep}
use Rattle.rules.specs.Table.{Table, remove}
use Rattle.rules.specs.WellFormed.{rising}
use Rattle.rules.specs.Snapshot.{rows_words}
use Rattle.rules.proofs.Counts.{Alike, same, apart, alike}
use Rattle.tables.proofs.Tables.{cleared}
use Rattle.tables.specs.Rows.{table, insert_at, remove_at, Rising, first_where, place_of, find_row, without, Row, words_in, key_in, key_of}

module _ {A B : Type 0} (g : A → B) where
  map_insert : (xs : List A) (j : ℕ) (y : A) → map g (insert_at xs j y) ≡ insert_at (map g xs) j (g y)
  map_insert xs zero y = refl
  map_insert [] (suc j) y = refl
  map_insert (x ∷ xs) (suc j) y = ap (λ (l : List B). g x ∷ l) (map_insert xs j y)

  map_remove : (xs : List A) (j : ℕ) → map g (remove_at xs j) ≡ remove_at (map g xs) j
  map_remove [] zero = refl
  map_remove (x ∷ xs) zero = refl
  map_remove [] (suc j) = refl
  map_remove (x ∷ xs) (suc j) = ap (λ (l : List B). g x ∷ l) (map_remove xs j)

  -- tests that agree
  module _ (f : B → Bool) (h : A → Bool) (e : (x : A) → f (g x) ≡ h x) where
    map_keep : (xs : List A) → map g (keep h xs) ≡ keep f (map g xs)
    unfolding keep
    map_keep [] = refl
    map_keep (x ∷ xs) = rw (e x) (go (h x) (map_keep xs))
      where
        go : (c : Bool) → map g (keep h xs) ≡ keep f (map g xs) → map g (cond c (x ∷ keep h xs) (keep h xs)) ≡ cond c (g x ∷ keep f (map g xs)) (keep f (map g xs))
        go true q = ap (λ (l : List B). g x ∷ l) q
        go false q = q

    map_first : (xs : List A) → first_where f (map g xs) ≡ first_where h xs
    unfolding first_where
    map_first [] = refl
    map_first (x ∷ xs) = rw (e x, map_first xs)

  map_rising : (f : B → B → Bool) (h : A → A → Bool) → ((x y : A) → f (g x) (g y) ≡ h x y) → (xs : List A) → rising f (map g xs) ≡ rising h xs
  unfolding rising
  map_rising f h e [] = refl
  map_rising f h e (x ∷ []) = refl
  map_rising f h e (x ∷ y ∷ xs) = rw (e x y, map_rising f h e (y ∷ xs))

module _ {A : Type 0} (f : A → List ℕ) (w : ℕ) (fw : (x : A) → length (f x) ≡ w) (cap : ℕ) where
  abbrev as_row : A → Row w
  as_row x = record { words = f x; wide = fw x }

  rows_map : (xs : List A) → rows_words f xs ≡ rows_words words_in (map as_row xs)
  unfolding rows_words
  rows_map [] = refl
  rows_map (x ∷ xs) = ap (λ (l : List ℕ). f x ++ l) (rows_map xs)

  table_map : (xs : List A) → table f w cap xs ≡ table words_in w cap (map as_row xs)
  table_map xs = rw (rows_map xs, length-map xs as_row)

  module _ (xs : List A) (t u : List ℕ) (e : t ≡ table f w cap xs) where
    -- `open_row`, where the value z is written as zeros
    pub opened_as : (j : ℕ) (z : A) → f z ≡ replicate w 0 → length xs < cap → j ≤ length xs
        → ((rs : List (Row w)) (r : Row w) → t ≡ table words_in w cap rs → length rs < cap → j ≤ length rs → r.words ≡ replicate w 0 → u ≡ table words_in w cap (insert_at rs j r))
        → u ≡ table f w cap (insert_at xs j z)
    opened_as j z q l h g =
        let n : length (map as_row xs) ≡ length xs = length-map xs as_row in
        g (map as_row xs) (as_row z) (e ∙ table_map xs) (omega arith) (omega arith) q ∙ sym (table_map (insert_at xs j z) ∙ rw (map_insert as_row xs j z))

    -- `remove_row`
    pub removed_as : (j : ℕ) → length xs ≤ cap → j < length xs
        → ((rs : List (Row w)) → t ≡ table words_in w cap rs → length rs ≤ cap → j < length rs → u ≡ table words_in w cap (remove_at rs j))
        → u ≡ table f w cap (remove_at xs j)
    removed_as j l h g =
        let n : length (map as_row xs) ≡ length xs = length-map xs as_row in
        g (map as_row xs) (e ∙ table_map xs) (omega arith) (omega arith) ∙ sym (table_map (remove_at xs j) ∙ rw (map_remove as_row xs j))

    -- `empty`
    pub emptied_as : length xs ≤ cap → ((rs : List (Row w)) → t ≡ table words_in w cap rs → length rs ≤ cap → u ≡ replicate (length t) 0) → u ≡ table f w cap []
    emptied_as l g =
        let n : length (map as_row xs) ≡ length xs = length-map xs as_row in cleared f w cap xs t u e (g (map as_row xs) (e ∙ table_map xs) (omega arith))

    -- the key is the first word
    module _ (key : A → ℕ) (first : (x : A) → get_or (f x) 0 0 ≡ key x) where
      -- `drop_rows`
      pub dropped_as : (k : ℕ) → length xs ≤ cap
          → ((rs : List (Row w)) → t ≡ table words_in w cap rs → length rs ≤ cap → u ≡ table words_in w cap (without key_in k rs))
          → u ≡ table f w cap (without key k xs)
      dropped_as k l g =
          let n : length (map as_row xs) ≡ length xs = length-map xs as_row in
          g (map as_row xs) (e ∙ table_map xs) (omega arith)
          ∙ sym (table_map (without key k xs) ∙ rw (map_keep as_row (λ r. not (eqb (key_in r) k)) (λ x. not (eqb (key x) k)) (λ x. rw (first x)) xs))

      rising_map : Rising key xs → Rising key_in (map as_row xs)
      rising_map h = map_rising as_row (λ x y. ltb (key_in x) (key_in y)) (λ x y. ltb (key x) (key y)) (λ x y. rw (first x, first y)) xs ∙ h

      -- `place_of`
      pub placed_as : (k r : ℕ) → length xs ≤ cap → Rising key xs
          → ((rs : List (Row w)) → t ≡ table words_in w cap rs → length rs ≤ cap → Rising key_in rs → r ≡ place_of key_in k rs)
          → r ≡ place_of key k xs
      placed_as k r l h g =
          let n : length (map as_row xs) ≡ length xs = length-map xs as_row in
          g (map as_row xs) (e ∙ table_map xs) (omega arith) (rising_map h)
          ∙ map_first as_row (λ x. leb k (key_in x)) (λ x. leb k (key x)) (λ x. rw (first x)) xs

      -- `find_row`
      pub found_as : (k : ℕ) (r : Option ℕ) → length xs ≤ cap → Rising key xs
          → ((rs : List (Row w)) → t ≡ table words_in w cap rs → length rs ≤ cap → Rising key_in rs → r ≡ find_row key_in k rs)
          → r ≡ find_row key k xs
      found_as k r l h g =
          let n : length (map as_row xs) ≡ length xs = length-map xs as_row in
          g (map as_row xs) (e ∙ table_map xs) (omega arith) (rising_map h) ∙ rw (map_first as_row (λ x. eqb (key_in x) k) (λ x. eqb (key x) k) (λ x. rw (first x)) xs, n)

-- the definitions' name for rows taken out by key
pub remove_is_without : {A : Type 0} (k : ℕ) (t : Table A) → remove k t ≡ without key_of k t
unfolding remove keep
remove_is_without k [] = refl
remove_is_without {A} k (e ∷ t) = go (alike k e.key) (alike e.key k) (remove_is_without k t)
  where
    go : Alike k e.key → Alike e.key k → remove k t ≡ without key_of k t → remove k (e ∷ t) ≡ without key_of k (e ∷ t)
    go (same p q) (same u v) h = rw (q, v) h
    go (same p q) (apart u v) h = absurd (u (sym p))
    go (apart p q) (same u v) h = absurd (p (sym u))
    go (apart p q) (apart u v) h = rw (q, v) (ap (λ (l : Table A). e ∷ l) h)
