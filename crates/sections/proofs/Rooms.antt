-- Rows and ids that lie within a table's room, and those that do not.
use Prim.Native.Nat.{ℕ, suc, ◌+◌, ◌*◌, ◌-◌, ◌/◌, ◌≤◌, ◌<◌}
use mathlib.Core.Path.{◌≡◌}
use mathlib.Core.Bool.{Bool, true, false}
use mathlib.Core.List.{List, []}
use native.Mathlib.Omega.{arith}
use native.Mathlib.Numerals.{add-one}
use native.Mathlib.Nat.{suc-mul, le-div_iff_mul-le, div-lt_iff_lt-mul}
use borrow.Author.Tests.{le-leb, lt-leb, lt-ltb, le-ltb}
use lib.Dec.{eqb}
use lib.ListN.{length, take, drop, get_or}
use Rattle.rules.specs.Lists.{bit_of}
use Rattle.sections.specs.Tables.{row_in, ids_in, count_in}

module _ (w i : ℕ) (t : List ℕ) (z : 0 < w) (l : 0 < length t) where
  pub row_within : i < (length t - 1) / w → 1 + i * w + w ≤ length t
  row_within h = omega (arith, (le-div_iff_mul-le {k = w} {x = suc i} {y = length t - 1} z).0 (omega arith), suc-mul i w)

  pub row_past : (length t - 1) / w ≤ i → row_in w i t ≡ []
  unfolding row_in
  row_past h = rw (lt-leb (1 + i * w + w) (length t) (omega (arith, (div-lt_iff_lt-mul {k = w} {x = length t - 1} {y = suc i} z).0 (omega arith), suc-mul i w)))

  pub row_there : i < (length t - 1) / w → row_in w i t ≡ take w (drop (1 + i * w) t)
  unfolding row_in
  row_there h = rw (le-leb (1 + i * w + w) (length t) (row_within h))

pub row_of_none : (w i : ℕ) (t : List ℕ) → length t ≡ 0 → row_in w i t ≡ []
unfolding row_in
row_of_none w i t e = rw (lt-leb (1 + i * w + w) (length t) (omega arith))

pub row_of_zero : (w i : ℕ) (t : List ℕ) → w ≡ 0 → 0 < length t → row_in w i t ≡ []
unfolding row_in
row_of_zero w i t e l = let z : 1 + i * 0 + 0 ≤ length t = omega arith in rw (e, le-leb (1 + i * 0 + 0) (length t) z)

pub ids_there : (t : List ℕ) → get_or t 0 0 < length t → ids_in t ≡ take (get_or t 0 0) (drop 1 t)
unfolding ids_in
ids_there t h = rw (lt-ltb (get_or t 0 0) (length t) h)

pub ids_past : (t : List ℕ) → length t ≤ get_or t 0 0 → ids_in t ≡ []
unfolding ids_in
ids_past t h = rw (le-ltb (get_or t 0 0) (length t) h)

-- ---- rows counted one by one

bit_most : (c : Bool) → bit_of c ≤ 1
bit_most true = omega arith
bit_most false = omega arith

module _ (w k x : ℕ) (t row : List ℕ) (n i v b : ℕ) (r : row ≡ row_in w i t) (e : v ≡ get_or row k 0) (f : b ≡ bit_of (eqb v x)) where
  pub bit_small : b ≤ 1
  bit_small = omega (arith, f, bit_most (eqb v x))

  pub counted : n ≡ count_in w k x t i → n + b ≡ count_in w k x t (i + 1)
  unfolding count_in
  counted p = rw (add-one i, ← p, ← r, ← e, ← f)
