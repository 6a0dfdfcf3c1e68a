-- Tests over any words, as the code joins them.
use Rattle.std.specs.Prelude.{ℕ, zero, suc, ◌-◌, List, [], ◌∷◌, Bool, true, false, ◌&&◌, ◌||◌, leb, ltb, eqb, length, take, drop, get_or}
use Rattle.rules.specs.Lists.{every, distinct}

-- ---- tests in a row, as the code's `&` and `|` join them

abbrev pub and_on : Bool → List Bool → Bool
and_on a [] = a
and_on a (b ∷ bs) = and_on (a && b) bs

abbrev pub or_on : Bool → List Bool → Bool
or_on a [] = a
or_on a (b ∷ bs) = or_on (a || b) bs

-- every test says yes; some test says yes
unfoldable pub all_pass : List Bool → Bool
all_pass [] = true
all_pass (b ∷ bs) = and_on b bs

unfoldable pub any_pass : List Bool → Bool
any_pass [] = false
any_pass (b ∷ bs) = or_on b bs

-- ---- words

abbrev pub at : List ℕ → ℕ → ℕ
at t i = get_or t i 0

-- the words from one place up to another
abbrev pub between : ℕ → ℕ → List ℕ → List ℕ
between a e t = take (e - a) (drop a t)

abbrev pub all_zero : List ℕ → Bool
all_zero = every (λ x. eqb x 0)

-- how many marks tell ids apart
abbrev pub mark_count : ℕ
mark_count = 512

-- ---- tables

-- the first word rises; or, of rows in pairs, it is the same and the second rises
abbrev pub rises : Bool → List ℕ → List ℕ → Bool
rises pairs s t = any_pass (ltb (at s 0) (at t 0) ∷ all_pass (pairs ∷ eqb (at s 0) (at t 0) ∷ ltb (at s 1) (at t 1) ∷ []) ∷ [])

-- ok: a row is good; lt: a row's words, with any after them, are below the next's
module _ (ok : List ℕ → Bool) (lt : List ℕ → List ℕ → Bool) (w : ℕ) where
  -- the first of n rows, n > 0: there, good, and below the next
  unfoldable pub first_ok : ℕ → List ℕ → Bool
  first_ok n t = all_pass (leb w (length t) ∷ ok (take w t) ∷ any_pass (eqb n 1 ∷ lt t (drop w t) ∷ []) ∷ [])

  -- n rows, and zeros after them
  unfoldable pub rows_ok : ℕ → List ℕ → Bool
  rows_ok zero t = all_zero t
  rows_ok (suc n) t = all_pass (first_ok (suc n) t ∷ rows_ok n (drop w t) ∷ [])

  unfoldable pub table_ok : ℕ → List ℕ → Bool
  table_ok cap t = all_pass (leb (at t 0) cap ∷ rows_ok (at t 0) (drop 1 t) ∷ [])

-- at most cap ids, distinct, and zeros after them
unfoldable pub ids_ok : ℕ → List ℕ → Bool
ids_ok cap t = all_pass (leb (at t 0) cap ∷ distinct (take (at t 0) (drop 1 t)) ∷ all_zero (drop (at t 0) (drop 1 t)) ∷ [])
