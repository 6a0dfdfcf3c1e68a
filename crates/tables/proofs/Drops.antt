-- Rows taken out by key: a turn of the loop, and the end.
use Prim.Native.Nat.{ℕ, suc, ◌+◌, ◌-◌, ◌*◌, ◌≤◌, ◌<◌}
use mathlib.Core.Path.{◌≡◌, refl, ap, sym, subst, ◌∙◌}
use mathlib.Core.List.{List, [], ◌∷◌, ◌++◌, append_assoc, append-nil}
use mathlib.Core.Bool.{Bool, true, false, cond, not}
use native.Mathlib.Omega.{arith}
use native.Mathlib.Numerals.{add-one}
use lib.Dec.{eqb}
use lib.ListN.{length, get_or, set, take, drop, replicate, length-append, replicate-append-replicate, drop_of_length-le}
use lib.Seq.{take-suc, drop-cons, take_all, get_or-append-add, length-take-le}
use borrow.Rule.Slice.PartMut.{put_mid}
use Rattle.rules.specs.Lists.{bit_of, keep}
use Rattle.rules.specs.Snapshot.{rows_words}
use Rattle.tables.specs.Rows.{table, without, Row, words_in, key_in}
use Rattle.shifts.specs.Moved.{moved_down}
use Rattle.shifts.proofs.Parts.{mid_read, mid_put}
use Rattle.shifts.proofs.Words.{Behind, shifted}
use Rattle.tables.proofs.Tables.{rows_append, rows_length, built, no_row}

module _ {A : Type 0} (f : A → Bool) where
  pub keep_append : (l m : List A) → keep f (l ++ m) ≡ keep f l ++ keep f m
  unfolding keep
  keep_append [] m = refl
  keep_append (x ∷ l) m = go (f x) (keep_append l m)
    where
      go : (c : Bool) → keep f (l ++ m) ≡ keep f l ++ keep f m → cond c (x ∷ keep f (l ++ m)) (keep f (l ++ m)) ≡ cond c (x ∷ keep f l) (keep f l) ++ keep f m
      go true h = ap (λ (z : List A). x ∷ z) h
      go false h = h

  pub keep_most : (l : List A) → length (keep f l) ≤ length l
  unfolding keep
  keep_most [] = omega arith
  keep_most (x ∷ l) = go (f x) (keep_most l)
    where
      go : (c : Bool) → length (keep f l) ≤ length l → length (cond c (x ∷ keep f l) (keep f l)) ≤ suc (length l)
      go true h = omega arith
      go false h = omega arith

  keep_one : (x : A) → keep f (x ∷ []) ≡ cond (f x) (x ∷ []) []
  unfolding keep
  keep_one x = refl

-- i rows have been tried: those kept, k of them, then what is left of moved rows, then the rows to come
pub record Tried {w : ℕ} (cap x : ℕ) (rs : List (Row w)) (t : List ℕ) (i k : ℕ) : Type 0 where
  pub junk : List ℕ
  pub words : t ≡ (length rs ∷ rows_words words_in (without key_in x (take i rs))) ++ (junk ++ (rows_words words_in (drop i rs) ++ replicate ((cap - length rs) * w) 0))
  pub size : length junk ≡ (i - k) * w
  pub place : k ≡ length (without key_in x (take i rs))

module _ {w : ℕ} (cap x : ℕ) (rs : List (Row w)) where
  wide : (r : Row w) → length r.words ≡ w
  wide r = r.wide

  abbrev zs : List ℕ
  zs = replicate ((cap - length rs) * w) 0

  pub tried_none : (t : List ℕ) → t ≡ table words_in w cap rs → length rs ≤ cap → Tried cap x rs t 0 0
  unfolding rows_words keep
  tried_none t e l = record { junk = []; words = e ∙ built words_in w wide cap [] rs rs refl l; size = omega arith; place = refl }

  module _ (t : List ℕ) (i k : ℕ) (s : Tried cap x rs t i k) (h : i < length rs) where
    abbrev here : Row w
    here = get_or rs i (no_row w)

    abbrev kept : List (Row w)
    kept = without key_in x (take i rs)

    most : k ≤ i
    most = omega (arith, s.place, keep_most (λ r. not (eqb (key_in r) x)) (take i rs), length-take-le i rs (omega arith))

    front : length (length rs ∷ rows_words words_in kept) ≡ 1 + k * w
    front = omega (arith, rows_length words_in w wide kept, ap (λ (n : ℕ). n * w) s.place)

    -- where row i starts
    start : 1 + k * w + (i - k) * w ≡ 1 + i * w
    start = let e : k + (i - k) ≡ i = omega (arith, most) in omega (arith, ap (λ (n : ℕ). n * w) e)

    around : t ≡ (length rs ∷ rows_words words_in kept) ++ (s.junk ++ (here.words ++ (rows_words words_in (drop (suc i) rs) ++ zs)))
    unfolding rows_words
    around = s.words ∙ rw (drop-cons rs i (no_row w) h) (simp append_assoc)

    pub key_here : 0 < w → get_or t (1 + i * w) 0 ≡ key_in here
    key_here z =
        let e : 1 + i * w ≡ length ((length rs ∷ rows_words words_in kept) ++ s.junk) + 0 = omega (arith, length-append (length rs ∷ rows_words words_in kept) s.junk, front, s.size, start) in
        ap (λ (l : List ℕ). get_or l (1 + i * w) 0) (around ∙ sym (append_assoc (length rs ∷ rows_words words_in kept) s.junk _))
        ∙ ap (λ (n : ℕ). get_or (((length rs ∷ rows_words words_in kept) ++ s.junk) ++ (here.words ++ (rows_words words_in (drop (suc i) rs) ++ zs))) n 0) e
        ∙ get_or-append-add ((length rs ∷ rows_words words_in kept) ++ s.junk) (here.words ++ (rows_words words_in (drop (suc i) rs) ++ zs)) 0 0
        ∙ head here.words (rows_words words_in (drop (suc i) rs) ++ zs) (omega (arith, here.wide))
      where
        head : (l m : List ℕ) → 0 < length l → get_or (l ++ m) 0 0 ≡ get_or l 0 0
        head [] m p = absurd (omega arith)
        head (y ∷ l) m p = refl

    pub tried_more : (u : List ℕ) (r : ℕ) → 0 < w → r ≡ k + bit_of (not (eqb (get_or t (1 + i * w) 0) x)) → u ≡ moved_down t (1 + i * w) (1 + i * w + w) ((i - k) * w)
        → Tried cap x rs u (i + 1) r
    unfolding rows_words
    tried_more u r z q m =
        let b = shifted (length rs ∷ rows_words words_in kept) s.junk here.words (rows_words words_in (drop (suc i) rs) ++ zs) t u (1 + i * w) (1 + i * w + w) ((i - k) * w)
        around (omega (arith, front, s.size, start)) (omega (arith, here.wide)) s.size m in
        let cut : without key_in x (take (i + 1) rs) ≡ kept ++ without key_in x (here ∷ []) =
        rw (add-one i, take-suc rs i (no_row w) h) (keep_append (λ y. not (eqb (key_in y) x)) (take i rs) (here ∷ [])) in
        go (eqb (key_in here) x) refl b (rw (key_here z) at q) cut
      where
        go : (c : Bool) → eqb (key_in here) x ≡ c
            → Behind (length rs ∷ rows_words words_in kept) s.junk here.words (rows_words words_in (drop (suc i) rs) ++ zs) u
            → r ≡ k + bit_of (not (eqb (key_in here) x)) → without key_in x (take (i + 1) rs) ≡ kept ++ without key_in x (here ∷ []) → Tried cap x rs u (i + 1) r
        go true c b q cut =
            let e : without key_in x (take (i + 1) rs) ≡ kept = cut ∙ rw (keep_one (λ y. not (eqb (key_in y) x)) here, c) (append-nil kept) in
            let r' : r ≡ k = rw c at q ∙ omega arith in
            let n : i + 1 - r ≡ suc (i - k) = omega (arith, most) in
            record {
              junk = here.words ++ b.junk;
              words = b.words ∙ rw (e, add-one i) (simp append_assoc);
              size = rw n (omega (arith, length-append here.words b.junk, here.wide, b.size, s.size));
              place = rw e (r' ∙ s.place);
            }
        go false c b q cut =
            let e : without key_in x (take (i + 1) rs) ≡ kept ++ here ∷ [] = cut ∙ rw (keep_one (λ y. not (eqb (key_in y) x)) here, c) in
            let r' : r ≡ k + 1 = rw c at q in
            let n : i + 1 - r ≡ i - k = omega (arith, r') in
            record {
              junk = b.junk;
              words = b.words ∙ rw (e, add-one i, rows_append words_in w wide kept (here ∷ [])) (simp (append_assoc, append-nil));
              size = rw n (b.size ∙ s.size);
              place = rw e (omega (arith, length-append kept (here ∷ []), s.place));
            }

  pub tried_at : (t : List ℕ) (i n k : ℕ) → i ≡ n → Tried cap x rs t i k → Tried cap x rs t n k
  tried_at t i n k e s = subst (λ m. Tried cap x rs t m k) e s

  -- the room that is left zeroed, and the count set
  pub tried_all : (t v : List ℕ) (n k : ℕ) → Tried cap x rs t n k → n ≡ length rs → length rs ≤ cap
      → v ≡ replicate (length (take (1 + n * w - (1 + k * w)) (drop (1 + k * w) t))) 0
      → set (put_mid (1 + k * w) (1 + n * w - (1 + k * w)) t v) 0 k ≡ table words_in w cap (without key_in x rs)
  unfolding rows_words
  tried_all t v n k s q l z =
      let all : take n rs ≡ rs = take_all n rs (omega arith) in
      let none : drop n rs ≡ [] = drop_of_length-le rs {i = n} (omega arith) in
      let P : List ℕ = length rs ∷ rows_words words_in (without key_in x rs) in
      let Z : List ℕ = replicate ((cap - length rs) * w) 0 in
      let kl : k ≡ length (without key_in x rs) = s.place ∙ rw all in
      let kn : length (without key_in x rs) ≤ length rs = keep_most (λ y. not (eqb (key_in y) x)) rs in
      let e : t ≡ P ++ (s.junk ++ Z) = s.words ∙ rw (all, none) in
      let p : length P ≡ 1 + k * w = omega (arith, rows_length words_in w wide (without key_in x rs), ap (λ (m : ℕ). m * w) kl) in
      let sum : n ≡ k + (n - k) = omega (arith, kl, kn) in
      let j : length s.junk ≡ 1 + n * w - (1 + k * w) = omega (arith, s.size, ap (λ (m : ℕ). m * w) sum) in
      let f = mid_read P s.junk Z t (1 + k * w) (1 + n * w - (1 + k * w)) e p j in
      let both : (cap - k) * w ≡ (n - k) * w + (cap - length rs) * w =
      let y : cap - k ≡ (n - k) + (cap - length rs) = omega (arith, kl, kn) in omega (arith, ap (λ (m : ℕ). m * w) y) in
      ap (λ (y : List ℕ). set y 0 k) (mid_put P s.junk Z t v (1 + k * w) (1 + n * w - (1 + k * w)) e p j)
      ∙ rw (z, f, s.size, replicate-append-replicate {A = ℕ} ((n - k) * w) ((cap - length rs) * w) 0, ← both)
      (sym (built words_in w wide cap (without key_in x rs) [] (without key_in x rs) (sym (append-nil _)) (omega arith) ∙ rw (← kl)))
