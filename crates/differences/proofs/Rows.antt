-- Rows where the code reads them, and a turn of the walk.
use Prim.Native.Nat.{ℕ, ◌+◌, ◌-◌, ◌*◌, ◌/◌, ◌≤◌, ◌<◌}
use mathlib.Core.Path.{◌≡◌, refl, ap, sym, ◌∙◌}
use mathlib.Core.Bool.{Bool, true, false, ◌&&◌, cond}
use mathlib.Core.List.{List, [], ◌∷◌}
use native.Mathlib.Omega.{arith}
use native.Mathlib.Numerals.{add-one}
use native.Mathlib.Nat.{mul-le-mul_right, div-mul-le_self, mul-div_cancel}
use lib.Dec.{eqb}
use lib.Pointwise.{pointwise}
use lib.ListN.{length, get_or, take, drop, drop_of_length-le}
use lib.Seq.{drop-cons, set-get_or}
use Rattle.std.specs.Prelude.{Some, None, nat_eq}
use Rattle.rules.specs.Lists.{◌and◌, equal}
use Rattle.tables.specs.Rows.{table, Row, words_in}
use Rattle.tables.proofs.Tables.{table_length, counted, row_spot, scaled, no_row}
use Rattle.shifts.proofs.Parts.{spot_read}
use Rattle.word_tests.specs.Tests.{rises}
use Rattle.differences.specs.declared.Difference.TheVariants.{Gone, New, Changed}
use Rattle.differences.specs.Differ.{TableOf, from, differ}

-- ---- two lists of words, as `==` compares them

pub compared : (s t : List ℕ) → pointwise nat_eq s t ≡ equal s t
unfolding equal ◌and◌
compared [] [] = refl
compared [] (y ∷ t) = refl
compared (x ∷ s) [] = refl
compared (x ∷ s) (y ∷ t) = go (eqb x y) (compared s t)
  where
    go : (c : Bool) → pointwise nat_eq s t ≡ equal s t → (c && pointwise nat_eq s t) ≡ (c and equal s t)
    go true e = e
    go false e = refl

-- ---- how many rows there are

-- as many rows as the words have room for
pub rows_within : (w n long i : ℕ) → n ≤ (long - 1) / w → 0 < long → i < n → 1 + i * w + w ≤ long
rows_within w n long i h z k = omega (arith, scaled i n w k, mul-le-mul_right w h, div-mul-le_self (long - 1) w)

module _ {w : ℕ} {t : List ℕ} {rs : List (Row w)} (o : TableOf w t rs) where
  pub table_long : length t ≡ 1 + o.cap * w
  table_long = ap length o.words ∙ table_length words_in w o.cap rs

  pub count_is : get_or t 0 0 ≡ length rs
  count_is = counted words_in w (λ x. x.wide) o.cap rs t o.words

  pub count_fits : 0 < w → length rs ≤ (length t - 1) / w
  count_fits z =
      let e : length t - 1 ≡ o.cap * w = omega (arith, table_long) in
      rw (e, mul-div_cancel o.cap z) o.room

  pub row_is : (i : ℕ) → i < length rs → take w (drop (1 + i * w) t) ≡ (get_or rs i (no_row w)).words
  row_is i h =
      spot_read (row_spot words_in w (λ x. x.wide) o.cap rs i h o.room) (get_or rs i (no_row w)) t (1 + i * w) w (o.words ∙ ap (table words_in w o.cap) (sym (set-get_or rs i (no_row w)))) refl
      (get_or rs i (no_row w)).wide

-- ---- the rows from a place on

module _ {w : ℕ} (rs : List (Row w)) (i : ℕ) where
  from_more : i < length rs → from i rs ≡ (get_or rs i (no_row w)).words ∷ from (i + 1) rs
  unfolding from
  from_more h = rw (drop-cons rs i (no_row w) h, add-one i)

  from_none : length rs ≤ i → from i rs ≡ []
  unfolding from
  from_none h = rw (drop_of_length-le rs {i = i} h)

module _ (pairs : Bool) {w : ℕ} {a b : List ℕ} {rs qs : List (Row w)} (o : TableOf w a rs) (p : TableOf w b qs) (k l : ℕ) where
  pub first_ends : k < length rs → length qs ≤ l → Some (Gone k l) ≡ differ pairs k l (from k rs) (from l qs)
  unfolding differ
  first_ends h g = rw (from_more rs k h, from_none qs l g)

  pub second_ends : length rs ≤ k → l < length qs → Some (New k l) ≡ differ pairs k l (from k rs) (from l qs)
  unfolding differ
  second_ends h g = rw (from_none rs k h, from_more qs l g)

  pub both_end : length rs ≤ k → length qs ≤ l → None ≡ differ pairs k l (from k rs) (from l qs)
  unfolding differ
  both_end h g = rw (from_none rs k h, from_none qs l g)

  -- the two rows as the code has them
  module _ (x y : List ℕ) (ex : x ≡ take w (drop (1 + k * w) a)) (ey : y ≡ take w (drop (1 + l * w) b)) (h : k < length rs) (g : l < length qs) where
    rows_differ : differ pairs k l (from k rs) (from l qs)
        ≡ cond (rises pairs x y) (Some (Gone k l))
        (cond (rises pairs y x) (Some (New k l)) (cond (equal x y) (differ pairs (k + 1) (l + 1) (from (k + 1) rs) (from (l + 1) qs)) (Some (Changed k l))))
    unfolding differ
    rows_differ = rw (from_more rs k h, from_more qs l g, ex, ey, row_is o k h, row_is p l g)

    pub row_gone : rises pairs x y ≡ true → Some (Gone k l) ≡ differ pairs k l (from k rs) (from l qs)
    row_gone r = rw (rows_differ, r)

    pub row_new : rises pairs x y ≡ false → rises pairs y x ≡ true → Some (New k l) ≡ differ pairs k l (from k rs) (from l qs)
    row_new r q = rw (rows_differ, r, q)

    pub row_changed : rises pairs x y ≡ false → rises pairs y x ≡ false → equal x y ≡ false → Some (Changed k l) ≡ differ pairs k l (from k rs) (from l qs)
    row_changed r q e = rw (rows_differ, r, q, e)

    pub row_same : rises pairs x y ≡ false → rises pairs y x ≡ false → equal x y ≡ true
        → differ pairs (k + 1) (l + 1) (from (k + 1) rs) (from (l + 1) qs) ≡ differ pairs k l (from k rs) (from l qs)
    row_same r q e = rw (rows_differ, r, q, e)
