-- Lists of ids: a table whose rows are one word.
use Prim.Native.Nat.{ℕ, suc, ◌+◌, ◌-◌, ◌≤◌, ◌<◌}
use mathlib.Core.Path.{◌≡◌, refl, ap, sym, ◌∙◌}
use mathlib.Core.List.{List, [], ◌∷◌, ◌++◌, append_assoc}
use mathlib.Core.Bool.{Bool, true, false, ◌||◌}
use native.Mathlib.Omega.{arith}
use native.Mathlib.Nat.{mul-one}
use native.Mathlib.Numerals.{add-one}
use lib.Dec.{eqb}
use lib.ListN.{length, get_or, set, take, replicate, length-append, get_or-append}
use lib.Seq.{set_at, take-suc}
use Rattle.rules.specs.Lists.{◌or◌, any, has}
use Rattle.rules.specs.Snapshot.{rows_words, id_words}
use Rattle.tables.specs.Rows.{pad, id_table}
use Rattle.tables.proofs.Bools.{or_is}
use Rattle.tables.proofs.Tables.{pad_is}

pub id_rows : (l : List ℕ) → rows_words id_words l ≡ l
unfolding rows_words id_words
id_rows [] = refl
id_rows (x ∷ l) = ap (λ (m : List ℕ). x ∷ m) (id_rows l)

pub id_words_lem : (cap : ℕ) (l : List ℕ) → id_table cap l ≡ length l ∷ pad cap l
id_words_lem cap l = rw (id_rows l, mul-one)

-- a word more in the room past l
pad_push : (n : ℕ) (l : List ℕ) (x : ℕ) → length l < n → set (pad n l) (length l) x ≡ pad n (l ++ x ∷ [])
pad_push n l x h =
    let e : n - length l ≡ suc (n - suc (length l)) = omega arith in
    let q : length (l ++ x ∷ []) ≡ suc (length l) = simp length-append (omega arith) in
    ap (λ (z : List ℕ). set z (length l) x) (pad_is n l (omega arith) ∙ ap (λ (k : ℕ). l ++ replicate k 0) e)
    ∙ set_at l 0 (replicate (n - suc (length l)) 0) x (length l) refl
    ∙ sym (pad_is n (l ++ x ∷ []) (omega (arith, q)) ∙ rw q (append_assoc l (x ∷ []) (replicate (n - suc (length l)) 0)))

module _ (cap : ℕ) (l t : List ℕ) (e : t ≡ id_table cap l) where
  pub id_count : get_or t 0 0 ≡ length l
  id_count = ap (λ (m : List ℕ). get_or m 0 0) e

  -- the two stores that add an id
  pub push_words : (x : ℕ) → length l < cap → set (set t (1 + get_or t 0 0) x) 0 (get_or t 0 0 + 1) ≡ id_table cap (l ++ x ∷ [])
  push_words x h =
      let n : length (l ++ x ∷ []) ≡ length l + 1 = simp length-append (omega arith) in
      let s : 1 + length l ≡ suc (length l) = omega arith in
      rw (id_count, id_words_lem cap (l ++ x ∷ []), n) (ap (λ (m : List ℕ). set (set m (1 + length l) x) 0 (length l + 1)) (e ∙ id_words_lem cap l)
      ∙ rw s (ap (λ (m : List ℕ). (length l + 1) ∷ m) (pad_push cap l x h)))

  pub id_at : (i : ℕ) → i < length l → length l ≤ cap → get_or t (1 + i) 0 ≡ get_or l i 0
  id_at i h k =
      let s : 1 + i ≡ suc i = omega arith in
      rw (e ∙ id_words_lem cap l, s) (ap (λ (m : List ℕ). get_or m i 0) (pad_is cap l k) ∙ get_or-append l (replicate (cap - length l) 0) 0 i h)

or_no : (c : Bool) → (c or false) ≡ c
unfolding ◌or◌
or_no true = refl
or_no false = refl

any_end : (f : ℕ → Bool) (l : List ℕ) (y : ℕ) → any f (l ++ y ∷ []) ≡ (any f l or f y)
unfolding any ◌or◌
any_end f [] y = or_no (f y)
any_end f (x ∷ l) y = go (f x) (any_end f l y)
  where
    go : (c : Bool) → any f (l ++ y ∷ []) ≡ (any f l or f y) → (c or any f (l ++ y ∷ [])) ≡ ((c or any f l) or f y)
    go true h = refl
    go false h = h

-- a turn of the search: what the code makes of the word at i
pub has_more : (x : ℕ) (l : List ℕ) (i : ℕ) (found : Bool) (y : ℕ) → i < length l → found ≡ has x (take i l) → y ≡ get_or l i 0 → (found || eqb y x) ≡ has x (take (i + 1) l)
unfolding has
has_more x l i found y h e q =
    rw (e, q, add-one i, take-suc l i 0) (sym (any_end (λ z. eqb z x) (take i l) (get_or l i 0) ∙ sym (or_is (any (λ z. eqb z x) (take i l)) (eqb (get_or l i 0) x))))

pub has_none : (x : ℕ) → has x [] ≡ false
unfolding has any
has_none x = refl
