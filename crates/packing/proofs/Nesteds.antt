-- A table whose rows have lists in them, row by row.
use Prim.Native.Nat.{ℕ, suc, ◌+◌, ◌-◌, ◌*◌, ◌≤◌, ◌<◌}
use mathlib.Core.Path.{◌≡◌, refl, ap, sym, subst, ◌∙◌}
use mathlib.Core.List.{List, [], ◌++◌}
use native.Mathlib.Omega.{arith}
use lib.ListN.{length, take, drop, length-append, length-drop}
use lib.Seq.{length-take-le, drop-drop}
use Rattle.rules.specs.Board.{most_members, most_seats, most_half}
use Rattle.shifts.proofs.Parts.{between_length}
use Rattle.board.specs.Layout.{members_at, committee_width, seat_width, seats_at, left_at, right_at, reshape_width}
use Rattle.row_tests.specs.declared.RowKind.{RowKind}
use Rattle.row_tests.specs.declared.RowKind.TheVariants.{Machines, Committees, Boundaries, Rotations, Reshapes}
use Rattle.row_tests.specs.Rows.{width_of}
use Rattle.packing.specs.Packed.{between, count_of, row_of, rows_of, nested}
use Rattle.packing.specs.Put.{Put}
use Rattle.packing.proofs.Sizes.{flat_within, flat_most, committee_length, reshape_length}
use Rattle.packing.proofs.Lefts.{Left, start, room, next, last_room, done}
use Rattle.packing.proofs.Puts.{nested_start}

row_most : (k : RowKind) (t : List ℕ) → length t ≡ width_of k → length (row_of k t) ≤ width_of k
row_most Machines t l = omega arith
row_most Boundaries t l = omega arith
row_most Rotations t l = omega arith
row_most Committees t l =
    omega (arith, committee_length t l, flat_most 1 most_members (between members_at committee_width t) (between_length members_at committee_width t (omega arith)))
row_most Reshapes t l =
    omega (
      arith,
      reshape_length t l,
      flat_most seat_width most_seats (between seats_at left_at t) (between_length seats_at left_at t (omega arith)),
      flat_most 1 most_half (between left_at right_at t) (between_length left_at right_at t (omega arith)),
      flat_most 1 most_half (between right_at reshape_width t) (between_length right_at reshape_width t (omega arith)),
    )

-- the words of the row at a, as the code lends them
abbrev pub row_at : ℕ → ℕ → List ℕ → List ℕ
row_at a w t = take (a + w - a) (drop a t)

module _ (k : RowKind) (n a w : ℕ) (t : List ℕ) (more : 0 < n) (width : w ≡ width_of k) where
  rows_step : rows_of k n (drop a t) ≡ row_of k (row_at a w t) ++ rows_of k (n - 1) (drop (a + w) t)
  unfolding rows_of
  rows_step =
      let e : n ≡ suc (n - 1) = omega arith in
      let q : a + w - a ≡ width_of k = omega arith in
      let s : drop (a + w) t ≡ drop (width_of k) (drop a t) = ap (λ (m : ℕ). drop (a + m) t) width ∙ sym (drop-drop (width_of k) a t) in
      rw (q, s) (ap (λ (m : ℕ). rows_of k m (drop a t)) e)

  room_step : a + n * w ≤ length t → a + w + (n - 1) * w ≤ length t
  room_step h = let e : n ≡ suc (n - 1) = omega arith in omega (arith, ap (λ (m : ℕ). m * w) e)

  pub row_length : a + n * w ≤ length t → length (row_at a w t) ≡ width_of k
  row_length h = length-take-le (a + w - a) (drop a t) (omega (arith, length-drop a t, room_step h)) ∙ omega arith

no_rows : (k : RowKind) (n : ℕ) (t : List ℕ) → n ≡ 0 → rows_of k n t ≡ []
unfolding rows_of
no_rows k n t e = rw e

first_rows : (k : RowKind) (cap : ℕ) (t : List ℕ) (w n : ℕ) → length t ≡ 1 + cap * width_of k → w ≡ width_of k → n ≡ count_of cap t → 1 + n * w ≤ length t
first_rows k cap t w n l e f = rw (e, f) (flat_within (width_of k) cap t l)

-- ---- the size

pub record Counted (k : RowKind) (cap : ℕ) (t : List ℕ) (w n a s : ℕ) : Type 0 where
  pub within : a + n * w ≤ length t
  pub width : w ≡ width_of k
  pub below : s ≤ a
  pub sum : s + length (rows_of k n (drop a t)) ≡ length (nested k cap t)

pub count_start : (k : RowKind) (cap : ℕ) (t : List ℕ) (w n : ℕ) → length t ≡ 1 + cap * width_of k → w ≡ width_of k → n ≡ count_of cap t → Counted k cap t w n 1 1
unfolding nested
count_start k cap t w n l e f = record {
  within = first_rows k cap t w n l e f;
  width = e;
  below = omega arith;
  sum = rw f (omega (arith, length-append (take 1 t) (rows_of k (count_of cap t) (drop 1 t)), length-take-le 1 t (omega arith)));
}

module _ {k : RowKind} {cap : ℕ} {t : List ℕ} {w n a s : ℕ} (h : Counted k cap t w n a s) where
  pub count_turn : (r : ℕ) → 0 < n → r ≡ length (row_of k (row_at a w t)) → Counted k cap t w (n - 1) (a + w) (s + r)
  count_turn r more e = record {
    within = room_step k n a w t more h.width h.within;
    width = h.width;
    below = omega (arith, row_most k (row_at a w t) (row_length k n a w t more h.width h.within), h.below, h.width);
    sum = omega (arith, h.sum, ap length (rows_step k n a w t more h.width), length-append (row_of k (row_at a w t)) (rows_of k (n - 1) (drop (a + w) t)));
  }

  pub count_end : n ≤ 0 → (s ≡ length (nested k cap t)) × (s ≤ length t)
  count_end z = (omega (arith, h.sum, ap length (no_rows k n (drop a t) (omega arith))), omega (arith, h.below, h.within))

-- the same, counted from the first row on
pub counted_at : {k : RowKind} {cap : ℕ} {t : List ℕ} {w n a s m b : ℕ} → n ≡ m → a ≡ b → Counted k cap t w n a s → Counted k cap t w m b s
counted_at {k} {cap} {t} {w} {n} {a} {s} {m} {b} p q h = subst (λ (i : ℕ). Counted k cap t w i b s) p (subst (λ (i : ℕ). Counted k cap t w n i s) q h)

-- ---- the bytes

pub record Laying (k : RowKind) (t whole before : List ℕ) (at w : ℕ) (out : List ℕ) (n p a : ℕ) : Type 0 where
  pub within : a + n * w ≤ length t
  pub width : w ≡ width_of k
  pub left : Left whole at before (rows_of k n (drop a t)) p out

module _ (k : RowKind) (cap : ℕ) (t before : List ℕ) (at w n : ℕ) (l : length t ≡ 1 + cap * width_of k) (e : w ≡ width_of k) (f : n ≡ count_of cap t)
    (h : at + length (nested k cap t) * 8 ≤ length before) {out : List ℕ} {p : ℕ} (u : Put (take 1 t) at before out p) where
  -- the count is laid, and the rows are left
  pub lay_head : Left (nested k cap t) at before (rows_of k n (drop 1 t)) p out
  lay_head = rw f (next (take 1 t) (rows_of k (count_of cap t) (drop 1 t)) (nested_start k cap t before at h) u)

  pub lay_start : Laying k t (rows_of k n (drop 1 t)) out p w out n p 1
  lay_start = record {
    within = first_rows k cap t w n l e f;
    width = e;
    left = start (rows_of k n (drop 1 t)) (rows_of k n (drop 1 t)) p out refl (last_room (rows_of k n (drop 1 t)) lay_head);
  }

module _ {k : RowKind} {t whole before : List ℕ} {at w : ℕ} {out : List ℕ} {n p a : ℕ} (h : Laying k t whole before at w out n p a) where
  step : 0 < n → Left whole at before (row_of k (row_at a w t) ++ rows_of k (n - 1) (drop (a + w) t)) p out
  step more = subst (λ (l : List ℕ). Left whole at before l p out) (rows_step k n a w t more h.width) h.left

  pub lay_fits : 0 < n → (length (row_at a w t) ≡ width_of k) × (p + length (row_of k (row_at a w t)) * 8 ≤ length out)
  lay_fits more = (row_length k n a w t more h.width h.within, room (row_of k (row_at a w t)) (rows_of k (n - 1) (drop (a + w) t)) (step more))

  pub lay_turn : {o : List ℕ} {q : ℕ} → 0 < n → Put (row_of k (row_at a w t)) p out o q → Laying k t whole before at w o (n - 1) q (a + w)
  lay_turn more u = record {
    within = room_step k n a w t more h.width h.within;
    width = h.width;
    left = next (row_of k (row_at a w t)) (rows_of k (n - 1) (drop (a + w) t)) (step more) u;
  }

  pub lay_end : n ≤ 0 → Put whole at before out p
  lay_end z = done (subst (λ (l : List ℕ). Left whole at before l p out) (no_rows k n (drop a t) (omega arith)) h.left)

pub laying_at : {k : RowKind} {t whole before : List ℕ} {at w : ℕ} {out : List ℕ} {n p a m b : ℕ} → n ≡ m → a ≡ b → Laying k t whole before at w out n p a → Laying k t whole before at w out m p b
laying_at {k} {t} {whole} {before} {at} {w} {out} {n} {p} {a} {m} {b} e q h =
    subst (λ (i : ℕ). Laying k t whole before at w out i p b) e (subst (λ (i : ℕ). Laying k t whole before at w out n p i) q h)
