-- What the code has computed at each return and at each turn of a table's loop.
use Prim.Native.Nat.{ℕ, zero, suc, ◌+◌, ◌-◌, ◌≤◌, ◌<◌}
use mathlib.Core.Path.{◌≡◌, refl, ap, sym, ◌∙◌}
use mathlib.Core.List.{List}
use mathlib.Core.Bool.{Bool, true, false, ◌&&◌, ◌||◌}
use native.Mathlib.Omega.{arith}
use borrow.Author.Tests.{le-leb, lt-leb, leb-true, eq-eqb, ne_eqb}
use lib.Dec.{eqb, leb}
use lib.ListN.{length, take, drop}
use lib.Seq.{drop-drop}
use Rattle.rules.specs.Lists.{distinct}
use Rattle.word_tests.specs.Tests.{at, all_pass, any_pass, all_zero, ids_ok, first_ok, rows_ok, table_ok}
use Rattle.word_tests.proofs.Tests.{left_true}
use Rattle.word_tests.proofs.Loops.{rest_is}

and_cut : (a b : Bool) → a ≡ false → (a && b) ≡ false
and_cut a b h = ap (λ (x : Bool). x && b) h

-- ---- ids

pub ids_many : (cap : ℕ) (t : List ℕ) → cap < at t 0 → false ≡ ids_ok cap t
unfolding ids_ok all_pass
ids_many cap t h = simp (lt-leb (at t 0) cap h)

pub ids_is : (cap : ℕ) (t : List ℕ) (d z : Bool) → at t 0 ≤ cap → d ≡ distinct (take (at t 0) (drop 1 t)) → z ≡ all_zero (drop (at t 0) (drop 1 t)) → (d && z) ≡ ids_ok cap t
unfolding ids_ok all_pass
ids_is cap t d z h p q = rw (le-leb (at t 0) cap h, p, q)

-- ---- a table of any rows: v is the code's word for the width

module _ (ok : List ℕ → Bool) (lt : List ℕ → List ℕ → Bool) (w : ℕ) where
  module _ (v : ℕ) (e : v ≡ w) where
    pub first_short : (n : ℕ) (t : List ℕ) → length t < v → false ≡ first_ok ok lt w n t
    unfolding first_ok all_pass any_pass
    first_short n t h = let s : leb w (length t) ≡ false = lt-leb w (length t) (omega arith) in rw s

    pub first_is : (n : ℕ) (t : List ℕ) (r o : Bool) → v ≤ length t → r ≡ ok (take v t) → o ≡ lt t (take (length t - v) (drop v t))
        → (r && (eqb n 1 || o)) ≡ first_ok ok lt w n t
    unfolding first_ok all_pass any_pass
    first_is n t r o h p s =
        let l : leb w (length t) ≡ true = le-leb w (length t) (omega arith) in
        let p' : r ≡ ok (take w t) = p ∙ ap (λ (u : ℕ). ok (take u t)) e in
        let s' : o ≡ lt t (drop w t) = s ∙ ap (lt t) (rest_is t v ∙ ap (λ (u : ℕ). drop u t) e) in
        rw (l, p', s')

    -- the same by branches, of a row and what comes after it: the row is bad; it is good and the last; it is good, and o tells whether it is below the next
    module _ (n : ℕ) (t row rest : List ℕ) (r : Bool) (h : v ≤ length t) (p : row ≡ take v t) (q : rest ≡ drop v t) (told : r ≡ ok row) where
      first_by : (o : Bool) → o ≡ lt t rest → (r && (eqb n 1 || o)) ≡ first_ok ok lt w n t
      first_by o s = first_is n t r o h (told ∙ ap ok p) (s ∙ ap (lt t) (q ∙ sym (rest_is t v)))

      pub first_bad : r ≡ false → false ≡ first_ok ok lt w n t
      first_bad f = ap (λ (b : Bool). b && (eqb n 1 || lt t rest)) (sym f) ∙ first_by (lt t rest) refl

      pub first_last : r ≡ true → n ≡ 1 → true ≡ first_ok ok lt w n t
      first_last f one = rw (f, eq-eqb n 1 one) at (first_by (lt t rest) refl)

      pub first_next : (o : Bool) → r ≡ true → (n ≡ 1 → ⊥) → o ≡ lt t rest → o ≡ first_ok ok lt w n t
      first_next o f more s = rw (f, ne_eqb n 1 more) at (first_by o s)

  first_wide : (n : ℕ) (t : List ℕ) → first_ok ok lt w n t ≡ true → w ≤ length t
  unfolding first_ok all_pass any_pass
  first_wide n t h = leb-true w (length t) (left_true (leb w (length t)) (ok (take w t)) (left_true (leb w (length t) && ok (take w t)) (eqb n 1 || lt t (drop w t)) h))

  rows_step : (n : ℕ) (t : List ℕ) → 0 < n → rows_ok ok lt w n t ≡ (first_ok ok lt w n t && rows_ok ok lt w (n - 1) (drop w t))
  unfolding rows_ok all_pass
  rows_step zero t h = absurd (omega arith)
  rows_step (suc n) t h = let e : suc n - 1 ≡ n = omega arith in rw e

  rows_none : (n : ℕ) (t : List ℕ) → n ≤ 0 → rows_ok ok lt w n t ≡ all_zero t
  unfolding rows_ok
  rows_none zero t h = refl
  rows_none (suc n) t h = absurd (omega arith)

  module _ (cap : ℕ) (t : List ℕ) where
    pub table_many : cap < at t 0 → false ≡ table_ok ok lt w cap t
    unfolding table_ok all_pass
    table_many h = simp (lt-leb (at t 0) cap h)

    pub table_start : at t 0 ≤ cap → table_ok ok lt w cap t ≡ rows_ok ok lt w (at t 0) (drop 1 t)
    unfolding table_ok all_pass
    table_start h = let l : leb (at t 0) cap ≡ true = le-leb (at t 0) cap h in rw l

    -- n rows are left, and then zeros; r is the test of the first of them
    module _ (n : ℕ) (rest : List ℕ) (r : Bool) (inv : table_ok ok lt w cap t ≡ rows_ok ok lt w n rest) where
      pub rows_end : n ≤ 0 → r ≡ all_zero rest → r ≡ table_ok ok lt w cap t
      rows_end h q = q ∙ sym (inv ∙ rows_none n rest h)

      module _ (h : 0 < n) (q : r ≡ first_ok ok lt w n rest) where
        pub rows_fail : r ≡ false → false ≡ table_ok ok lt w cap t
        rows_fail f = sym (inv ∙ rows_step n rest h ∙ and_cut (first_ok ok lt w n rest) (rows_ok ok lt w (n - 1) (drop w rest)) (sym q ∙ f))

        pub rows_room : r ≡ true → w ≤ length rest
        rows_room f = first_wide n rest (sym q ∙ f)

        pub rows_more : r ≡ true → table_ok ok lt w cap t ≡ rows_ok ok lt w (n - 1) (drop w rest)
        rows_more f = inv ∙ rows_step n rest h ∙ ap (λ (b : Bool). b && rows_ok ok lt w (n - 1) (drop w rest)) (sym q ∙ f)

    -- the same of rows that begin at a
    module _ (n a v : ℕ) (r : Bool) (inv : table_ok ok lt w cap t ≡ rows_ok ok lt w n (drop a t)) where
      pub table_end : n ≤ 0 → r ≡ all_zero (take (length t - a) (drop a t)) → r ≡ table_ok ok lt w cap t
      table_end h q = rows_end n (drop a t) r inv h (q ∙ ap all_zero (rest_is t a))

      module _ (h : 0 < n) (q : r ≡ first_ok ok lt w n (take (length t - a) (drop a t))) where
        q' : r ≡ first_ok ok lt w n (drop a t)
        q' = q ∙ ap (first_ok ok lt w n) (rest_is t a)

        pub table_fails : r ≡ false → false ≡ table_ok ok lt w cap t
        table_fails f = rows_fail n (drop a t) r inv h q' f

        pub table_more : v ≡ w → r ≡ true → table_ok ok lt w cap t ≡ rows_ok ok lt w (n - 1) (drop (a + v) t)
        table_more e f = rows_more n (drop a t) r inv h q' f ∙ ap (rows_ok ok lt w (n - 1)) (drop-drop w a t ∙ ap (λ (u : ℕ). drop (a + u) t) (sym e))
