-- Tables in words: the laws of rows, over any width and any room.
use Prim.Native.Nat.{ℕ, zero, suc, ◌+◌, ◌-◌, ◌*◌, ◌≤◌, ◌<◌}
use mathlib.Core.Path.{◌≡◌, refl, ap, sym, ◌∙◌}
use mathlib.Core.List.{List, [], ◌∷◌, ◌++◌, append_assoc, append-nil}
use native.Mathlib.Omega.{arith}
use native.Mathlib.Nat.{zero-mul, mul-le-mul_right}
use lib.ListN.{length, get_or, set, take, drop, drop_of_length-le, replicate, length-append, length-drop, length-replicate, length-set, take-append-drop, replicate-append-replicate}
use lib.Seq.{set-get_or, take-append-add, set_split, split_at, length-take-le}
use Rattle.rules.specs.Snapshot.{rows_words}
use Rattle.tables.specs.Rows.{pad, table, insert_at, remove_at, Row}
use borrow.Rule.Slice.PartMut.{put_mid}
use Rattle.shifts.proofs.Parts.{Spot, spot_word, mid_put, mid_read}

-- ---- padding

pub length_pad : (n : ℕ) (l : List ℕ) → length (pad n l) ≡ n
unfolding pad
length_pad n l = length-take-le n (l ++ replicate n 0) (simp (length-append, length-replicate) (omega arith))

take_replicate : (n m : ℕ) → n ≤ m → take n (replicate {A = ℕ} m 0) ≡ replicate n 0
take_replicate zero m h = refl
take_replicate (suc n) zero h = absurd (omega arith)
take_replicate (suc n) (suc m) h = ap (λ (l : List ℕ). 0 ∷ l) (take_replicate n m (omega arith))

-- where l has room, the padding is zeros after it
pub pad_is : (n : ℕ) (l : List ℕ) → length l ≤ n → pad n l ≡ l ++ replicate (n - length l) 0
unfolding pad
pad_is n l h =
    let e : n ≡ length l + (n - length l) = omega arith in
    ap (λ (k : ℕ). take k (l ++ replicate n 0)) e ∙ take-append-add l (replicate n 0) (n - length l)
    ∙ ap (λ (z : List ℕ). l ++ z) (take_replicate (n - length l) n (omega arith))

pub table_length : {A : Type 0} (f : A → List ℕ) (w cap : ℕ) (xs : List A) → length (table f w cap xs) ≡ 1 + cap * w
table_length f w cap xs = omega (arith, length_pad (cap * w) (rows_words f xs))

-- a table of no rows is zeros
pub none_words : {A : Type 0} (f : A → List ℕ) (w cap : ℕ) → table f w cap [] ≡ replicate (1 + cap * w) 0
unfolding rows_words
none_words f w cap =
    let e : 1 + cap * w ≡ suc (cap * w) = omega arith in
    let z : cap * w - 0 ≡ cap * w = omega arith in
    rw e (ap (λ (l : List ℕ). 0 ∷ l) (pad_is (cap * w) [] (omega arith) ∙ rw z))

-- what `clear` makes of a table
pub cleared : {A : Type 0} (f : A → List ℕ) (w cap : ℕ) (xs : List A) (t u : List ℕ) → t ≡ table f w cap xs → u ≡ replicate (length t) 0 → u ≡ table f w cap []
cleared f w cap xs t u e q =
    let n : length t ≡ 1 + cap * w = ap length e ∙ table_length f w cap xs in
    q ∙ ap (λ (k : ℕ). replicate k 0) n ∙ sym (none_words f w cap)

-- ---- rows

module _ {A : Type 0} (f : A → List ℕ) (w : ℕ) (fw : (x : A) → length (f x) ≡ w) where
  pub rows_append : (xs ys : List A) → rows_words f (xs ++ ys) ≡ rows_words f xs ++ rows_words f ys
  unfolding rows_words
  rows_append [] ys = refl
  rows_append (x ∷ xs) ys = ap (λ (l : List ℕ). f x ++ l) (rows_append xs ys) ∙ sym (append_assoc (f x) (rows_words f xs) (rows_words f ys))

  pub rows_length : (xs : List A) → length (rows_words f xs) ≡ length xs * w
  unfolding rows_words
  rows_length [] = sym (zero-mul w)
  rows_length (x ∷ xs) = omega (arith, length-append (f x) (rows_words f xs), fw x, rows_length xs)

  module _ (cap : ℕ) where
    -- the room past n rows
    abbrev pub zeros : ℕ → List ℕ
    zeros n = replicate ((cap - n) * w) 0

    -- the words of a table of us and then vs
    pub built : (us vs xs : List A) → xs ≡ us ++ vs → length xs ≤ cap → table f w cap xs ≡ (length xs ∷ rows_words f us) ++ (rows_words f vs ++ zeros (length xs))
    built us vs xs e h =
        let r : cap ≡ length xs + (cap - length xs) = omega arith in
        let z : cap * w - length (rows_words f xs) ≡ (cap - length xs) * w = omega (arith, rows_length xs, ap (λ (n : ℕ). n * w) r) in
        ap (λ (l : List ℕ). length xs ∷ l)
        (pad_is (cap * w) (rows_words f xs) (omega (arith, rows_length xs, mul-le-mul_right w h))
        ∙ rw (z, ap (rows_words f) e, rows_append us vs) (append_assoc (rows_words f us) (rows_words f vs) (zeros (length xs))))

    pub fore : (xs : List A) (j : ℕ) → j ≤ length xs → length (length xs ∷ rows_words f (take j xs)) ≡ 1 + j * w
    fore xs j h = omega (arith, rows_length (take j xs), ap (λ (n : ℕ). n * w) (length-take-le j xs h))

    -- row i of a table stands at 1 + i * w
    pub row_spot : (xs : List A) (i : ℕ) → i < length xs → length xs ≤ cap → Spot f (λ y. table f w cap (set xs i y)) (1 + i * w)
    unfolding rows_words
    row_spot xs i h k = record {
      front = length xs ∷ rows_words f (take i xs);
      back = rows_words f (drop (suc i) xs) ++ zeros (length xs);
      is = λ y. built (take i xs) (y ∷ drop (suc i) xs) (set xs i y) (set_split xs i y h) (rw length-set k) ∙ simp (append_assoc, length-set);
      size = fore xs i (omega arith);
    }

    -- a row more: the words before and after it, with room for it past the last, and the table that has it
    room : (n : ℕ) → n < cap → zeros n ≡ replicate w 0 ++ zeros (suc n)
    room n h =
        let e : cap - n ≡ suc (cap - suc n) = omega arith in
        let q : (cap - n) * w ≡ w + (cap - suc n) * w = omega (arith, ap (λ (k : ℕ). k * w) e) in
        ap (λ (k : ℕ). replicate k 0) q ∙ sym (replicate-append-replicate w ((cap - suc n) * w) 0)

    module _ (xs : List A) (j : ℕ) where
      aft : j ≤ length xs → 1 + j * w + length (rows_words f (drop j xs)) ≡ 1 + length xs * w
      aft h =
          let e : j + length (drop j xs) ≡ length xs = omega (arith, length-drop j xs) in
          omega (arith, rows_length (drop j xs), ap (λ (n : ℕ). n * w) e)

      insert_from : length xs < cap
          → table f w cap xs ≡ (length xs ∷ rows_words f (take j xs)) ++ (rows_words f (drop j xs) ++ (replicate w 0 ++ zeros (suc (length xs))))
      insert_from h = built (take j xs) (drop j xs) xs (sym (take-append-drop j xs)) (omega arith) ∙ rw (room (length xs) h)

      insert_to : j ≤ length xs → length xs < cap → (y : A) (G : List ℕ) → G ≡ f y
          → ((length xs + 1) ∷ rows_words f (take j xs)) ++ (G ++ (rows_words f (drop j xs) ++ zeros (suc (length xs)))) ≡ table f w cap (insert_at xs j y)
      unfolding rows_words
      insert_to l h y G g =
          let n : length (insert_at xs j y) ≡ suc (length xs) = simp length-append (omega (arith, length-take-le j xs l, length-drop j xs)) in
          let n' : length xs + 1 ≡ length (insert_at xs j y) = omega arith in
          sym (built (take j xs) (y ∷ drop j xs) (insert_at xs j y) refl (omega arith) ∙ rw (g, n', n) (simp append_assoc))

      -- a row less
      remove_from : (d : A) → j < length xs → length xs ≤ cap
          → table f w cap xs ≡ (length xs ∷ rows_words f (take j xs)) ++ (f (get_or xs j d) ++ (rows_words f (drop (suc j) xs) ++ zeros (length xs)))
      unfolding rows_words
      remove_from d h k = built (take j xs) (get_or xs j d ∷ drop (suc j) xs) xs (split_at xs j d h) k ∙ simp append_assoc

      remove_aft : j < length xs → 1 + j * w + w + length (rows_words f (drop (suc j) xs)) ≡ 1 + length xs * w
      remove_aft h =
          let e : j + 1 + length (drop (suc j) xs) ≡ length xs = omega (arith, length-drop (suc j) xs) in
          omega (arith, rows_length (drop (suc j) xs), ap (λ (n : ℕ). n * w) e)

      remove_to : j < length xs → length xs ≤ cap
          → ((length xs - 1) ∷ rows_words f (take j xs)) ++ (rows_words f (drop (suc j) xs) ++ (replicate w 0 ++ zeros (length xs))) ≡ table f w cap (remove_at xs j)
      remove_to l h =
          let n : length (remove_at xs j) ≡ length xs - 1 = simp length-append (omega (arith, length-take-le j xs (omega arith), length-drop (suc j) xs)) in
          let s : suc (length xs - 1) ≡ length xs = omega arith in
          let z : zeros (length xs - 1) ≡ replicate w 0 ++ zeros (length xs) = room (length xs - 1) (omega arith) ∙ rw s in
          sym (built (take j xs) (drop (suc j) xs) (remove_at xs j) refl (omega arith) ∙ rw (n, z))

-- ---- what the code's gap and count make of a table

module _ {A : Type 0} (f : A → List ℕ) (w : ℕ) (fw : (x : A) → length (f x) ≡ w) (cap : ℕ) (xs : List A) (t : List ℕ) (e : t ≡ table f w cap xs) where
  pub counted : get_or t 0 0 ≡ length xs
  counted = ap (λ (l : List ℕ). get_or l 0 0) e

  -- the count and the rows zeroed: the room past them was
  pub emptied : (n : ℕ) (v : List ℕ) → n ≡ length xs → length xs ≤ cap → v ≡ replicate (length (take (1 + n * w - 0) (drop 0 t))) 0
      → put_mid 0 (1 + n * w - 0) t v ≡ replicate (length t) 0
  unfolding rows_words
  emptied n v q h z =
      let F : List ℕ = length xs ∷ rows_words f xs in
      let Z : List ℕ = replicate ((cap - length xs) * w) 0 in
      let s : t ≡ F ++ Z = e ∙ built f w fw cap xs [] xs (sym (append-nil xs)) h in
      let d : length F ≡ 1 + n * w - 0 = omega (arith, rows_length f w fw xs, ap (λ (k : ℕ). k * w) q) in
      let r : cap ≡ length xs + (cap - length xs) = omega arith in
      let both : 1 + n * w - 0 + (cap - length xs) * w ≡ length t = omega (arith, ap (λ (k : ℕ). k * w) r, ap (λ (k : ℕ). k * w) q, ap length e ∙ table_length f w cap xs) in
      let m : length (take (1 + n * w - 0) (drop 0 t)) ≡ 1 + n * w - 0 = ap length (mid_read [] F Z t 0 (1 + n * w - 0) s refl d) ∙ d in
      mid_put [] F Z t v 0 (1 + n * w - 0) s refl d ∙ ap (λ (y : List ℕ). y ++ Z) (z ∙ ap (λ (k : ℕ). replicate k 0) m)
      ∙ replicate-append-replicate {A = ℕ} (1 + n * w - 0) ((cap - length xs) * w) 0 ∙ ap (λ (k : ℕ). replicate k 0) both

  -- no rows: all is zeros
  pub empty_already : length xs ≡ 0 → t ≡ replicate (length t) 0
  empty_already z = go xs z e
    where
      go : (ys : List A) → length ys ≡ 0 → t ≡ table f w cap ys → t ≡ replicate (length t) 0
      go [] q s = s ∙ none_words f w cap ∙ ap (λ (k : ℕ). replicate k 0) (sym (ap length s ∙ table_length f w cap []))
      go (y ∷ ys) q s = absurd (omega arith)

  module _ (j : ℕ) (u : List ℕ) where
    abbrev Opened : Type 0
    Opened = u ≡ (length xs ∷ rows_words f (take j xs)) ++ (replicate w 0 ++ (rows_words f (drop j xs) ++ replicate ((cap - suc (length xs)) * w) 0))

    -- the store of the count, after a gap or where the row is the last
    count_stored : length xs < cap → j ≤ length xs → (z : A) → f z ≡ replicate w 0 → Opened → set u 0 (get_or t 0 0 + 1) ≡ table f w cap (insert_at xs j z)
    count_stored h l z fz q =
        let O : List ℕ = replicate w 0 ++ (rows_words f (drop j xs) ++ replicate ((cap - suc (length xs)) * w) 0) in
        ap (λ (x : List ℕ). set x 0 (get_or t 0 0 + 1)) q
        ∙ ap (λ (x : ℕ). ((x + 1) ∷ rows_words f (take j xs)) ++ O) counted
        ∙ insert_to f w fw cap xs j l h z (replicate w 0) (sym fz)

    -- what `open_gap` ensures
    pub open_words : length xs < cap → j ≤ length xs → (z : A) → f z ≡ replicate w 0
        → ((P R G Z : List ℕ) → t ≡ P ++ (R ++ (G ++ Z)) → length P ≡ 1 + j * w → 1 + j * w + length R ≡ 1 + get_or t 0 0 * w → length G ≡ w
        → u ≡ P ++ (replicate w 0 ++ (R ++ Z)))
        → set u 0 (get_or t 0 0 + 1) ≡ table f w cap (insert_at xs j z)
    open_words h l z fz g =
        count_stored h l z fz
        (g (length xs ∷ rows_words f (take j xs)) (rows_words f (drop j xs)) (replicate w 0) (replicate ((cap - suc (length xs)) * w) 0) (e ∙ insert_from f w fw cap xs j h) (fore f w fw cap xs j l)
        (omega (arith, aft f w fw cap xs j l, ap (λ (n : ℕ). n * w) counted)) (length-replicate w 0))

    -- past the last row its room is there
    pub open_last : length xs < cap → j ≡ length xs → u ≡ t → (z : A) → f z ≡ replicate w 0 → set u 0 (get_or t 0 0 + 1) ≡ table f w cap (insert_at xs j z)
    unfolding rows_words
    open_last h l s z fz =
        let n : rows_words f (drop j xs) ≡ [] = ap (rows_words f) (drop_of_length-le xs {i = j} (omega arith)) in
        count_stored h (omega arith) z fz (s ∙ e ∙ insert_from f w fw cap xs j h ∙ rw n)

    -- what `close_gap` ensures, and the store of the count after it
    pub remove_words : (d : A) → j < length xs → length xs ≤ cap
        → ((P F R Z : List ℕ) → t ≡ P ++ (F ++ (R ++ Z)) → length P ≡ 1 + j * w → length F ≡ w → 1 + j * w + w + length R ≡ 1 + get_or t 0 0 * w
        → u ≡ P ++ (R ++ (replicate w 0 ++ Z)))
        → set u 0 (get_or t 0 0 - 1) ≡ table f w cap (remove_at xs j)
    remove_words d l k g =
        let P : List ℕ = length xs ∷ rows_words f (take j xs) in
        let R : List ℕ = rows_words f (drop (suc j) xs) in
        let Z : List ℕ = replicate ((cap - length xs) * w) 0 in
        let q : u ≡ P ++ (R ++ (replicate w 0 ++ Z)) =
        g P (f (get_or xs j d)) R Z (e ∙ remove_from f w fw cap xs j d l k) (fore f w fw cap xs j (omega arith)) (fw (get_or xs j d))
        (omega (arith, remove_aft f w fw cap xs j l, ap (λ (n : ℕ). n * w) counted)) in
        ap (λ (x : List ℕ). set x 0 (get_or t 0 0 - 1)) q
        ∙ ap (λ (x : ℕ). ((x - 1) ∷ rows_words f (take j xs)) ++ (R ++ (replicate w 0 ++ Z))) counted
        ∙ remove_to f w fw cap xs j l k

  -- the key of row i, where the code reads it
  pub row_key : (i : ℕ) (d : A) → i < length xs → length xs ≤ cap → 0 < w → get_or t (1 + i * w) 0 ≡ get_or (f (get_or xs i d)) 0 0
  row_key i d h k z =
      spot_word (row_spot f w fw cap xs i h k) (get_or xs i d) t (1 + i * w) 0 (e ∙ ap (table f w cap) (sym (set-get_or xs i d))) (omega arith) (omega (arith, fw (get_or xs i d)))

-- a row is within the rows
pub scaled : (a b w : ℕ) → a < b → a * w + w ≤ b * w
scaled a b w h = omega (arith, mul-le-mul_right w h)

pub no_row : (w : ℕ) → Row w
no_row w = record { words = replicate w 0; wide = length-replicate w 0 }
