-- A text of numbers walked piece by piece.
use Prim.Native.Nat.{ℕ, suc, ◌+◌, ◌-◌, ◌≤◌, ◌<◌}
use mathlib.Core.Path.{◌≡◌, refl, ap, sym, ◌∙◌}
use mathlib.Core.Bool.{Bool, true, false, cond}
use mathlib.Core.List.{List, [], ◌∷◌, ◌++◌, append_assoc, append-nil}
use Rattle.std.specs.Prelude.{Some, None, Ok, Err}
use native.Mathlib.Omega.{arith}
use native.Mathlib.Numerals.{add-one}
use borrow.Author.Tests.{lt-ltb, le-ltb}
use lib.ListN.{length, get_or, take, drop, set, length-set, take-append-drop, drop_of_length-le}
use lib.Seq.{drop-cons, drop-drop, drop-set-lt, take-suc-set, take_all}
use Rattle.numerals.specs.declared.NumbersError.TheVariants.{NotANumber, TooMany}
use Rattle.numerals.specs.Decimal.{value_from, in_word, decimal_of}
use Rattle.numerals.specs.Pieces.{between, run_of, Piece, ended, pieces, pieces_of, then, numbers_of, laid_over, goes_on, end_of}

-- ---- where a piece ends

run_none : (b : ℕ) (l : List ℕ) → between b ≡ true → run_of (b ∷ l) ≡ []
unfolding run_of
run_none b l e = rw e

run_more : (b : ℕ) (l : List ℕ) → between b ≡ false → run_of (b ∷ l) ≡ b ∷ run_of l
unfolding run_of
run_more b l e = rw e

pub run_stops : (t : List ℕ) (e : ℕ) → e < length t → between (get_or t e 0) ≡ true → length (run_of (drop e t)) ≡ 0
run_stops t e h b = rw (drop-cons t e 0 h, run_none (get_or t e 0) (drop (suc e) t) b)

pub run_goes_on : (t : List ℕ) (e : ℕ) → e < length t → between (get_or t e 0) ≡ false → length (run_of (drop e t)) ≡ 1 + length (run_of (drop (e + 1) t))
run_goes_on t e h b = rw (drop-cons t e 0 h, run_more (get_or t e 0) (drop (suc e) t) b, add-one e) (omega arith)

pub run_ends : (t : List ℕ) (e : ℕ) → length t ≤ e → length (run_of (drop e t)) ≡ 0
unfolding run_of
run_ends t e h = rw (drop_of_length-le t {i = e} h)

run_is : (l : List ℕ) → take (length (run_of l)) l ≡ run_of l
unfolding run_of
run_is [] = refl
run_is (b ∷ l) = go (between b) (run_is l)
  where
    go : (c : Bool) → take (length (run_of l)) l ≡ run_of l → take (length (cond c [] (b ∷ run_of l))) (b ∷ l) ≡ cond c [] (b ∷ run_of l)
    go true e = refl
    go false e = ap (λ (x : List ℕ). b ∷ x) e

-- ---- the pieces from a place on

skips : (place b : ℕ) (l : List ℕ) → between b ≡ true → pieces place [] (b ∷ l) ≡ pieces (place + 1) [] l
unfolding pieces ended
skips place b l e = let z : place + 0 + 1 ≡ place + 1 = omega arith in rw (e, z)

runs : (place : ℕ) (p l : List ℕ) → pieces place p l ≡ ended place (p ++ run_of l) (pieces (place + length (p ++ run_of l)) [] (drop (length (run_of l)) l))
unfolding pieces ended run_of
runs place p [] = rw append-nil
runs place p (b ∷ l) = go (between b) refl (runs place (p ++ b ∷ []) l)
  where
    go : (c : Bool) → between b ≡ c
        → pieces place (p ++ b ∷ []) l ≡ ended place ((p ++ b ∷ []) ++ run_of l) (pieces (place + length ((p ++ b ∷ []) ++ run_of l)) [] (drop (length (run_of l)) l))
        → cond c (ended place p (pieces (place + length p + 1) [] l)) (pieces place (p ++ b ∷ []) l)
        ≡ ended place (p ++ cond c [] (b ∷ run_of l)) (pieces (place + length (p ++ cond c [] (b ∷ run_of l))) [] (drop (length (cond c [] (b ∷ run_of l))) (b ∷ l)))
    go true e h = rw (append-nil p, skips (place + length p) b l e)
    go false e h = h ∙ rw (append_assoc p (b ∷ []) (run_of l))

ended_some : (place b : ℕ) (p q : List ℕ) (ps : List Piece) → q ≡ b ∷ p → ended place q ps ≡ record { place = place; bytes = q } ∷ ps
unfolding ended
ended_some place b p q ps e = rw e

-- ---- a loop over the pieces: `at` and n say how far it is

pub record Walk (t out : List ℕ) (at n : ℕ) (o : List ℕ) : Type 0 where
  pub room : length o ≡ length out
  pub within : n ≤ length o
  pub end : end_of (length out) n (pieces at [] (drop at t)) ≡ end_of (length out) 0 (pieces_of t)
  pub laid : take n o ++ laid_over (numbers_of (pieces at [] (drop at t))) (drop n o) ≡ laid_over (numbers_of (pieces_of t)) out

pub walk_starts : (t out : List ℕ) → Walk t out 0 0 out
walk_starts t out = record { room = refl; within = omega arith; end = refl; laid = refl }

module _ (t out : List ℕ) (at n : ℕ) (o : List ℕ) (w : Walk t out at n o) where
  pub walk_skips : at < length t → between (get_or t at 0) ≡ true → Walk t out (at + 1) n o
  walk_skips h b =
      let e : pieces at [] (drop at t) ≡ pieces (at + 1) [] (drop (at + 1) t) =
      rw (drop-cons t at 0 h, skips at (get_or t at 0) (drop (suc at) t) b, add-one at) in
      record { room = w.room; within = w.within; end = rw e at w.end; laid = rw e at w.laid }

  -- nothing is left
  pub walk_ends : length t ≤ at → (Ok n ≡ end_of (length out) 0 (pieces_of t)) × (o ≡ laid_over (numbers_of (pieces_of t)) out)
  unfolding pieces ended numbers_of laid_over end_of
  walk_ends h =
      let z : drop at t ≡ [] = drop_of_length-le t h in
      (rw z at w.end, sym (take-append-drop n o) ∙ rw z at w.laid)

  -- a piece that ends before e
  module _ (e : ℕ) (h : at < length t) (b : between (get_or t at 0) ≡ false) (s : e ≡ at + length (run_of (drop at t))) where
    piece_is : pieces at [] (drop at t) ≡ record { place = at; bytes = take (e - at) (drop at t) } ∷ pieces e [] (drop e t)
    piece_is =
        let l = drop at t in
        let q : run_of l ≡ get_or t at 0 ∷ run_of (drop (suc at) t) = ap run_of (drop-cons t at 0 h) ∙ run_more (get_or t at 0) (drop (suc at) t) b in
        let k : e - at ≡ length (run_of l) = omega arith in
        runs at [] l ∙ ended_some at (get_or t at 0) (run_of (drop (suc at) t)) (run_of l) _ q ∙ rw (k, run_is l, drop-drop (length (run_of l)) at t, ← s)

    pub walk_stops : decimal_of (take (e - at) (drop at t)) ≡ None → (Err (NotANumber at) ≡ end_of (length out) 0 (pieces_of t)) × (o ≡ laid_over (numbers_of (pieces_of t)) out)
    unfolding numbers_of then laid_over end_of goes_on
    walk_stops d = (rw (piece_is, d) at w.end, sym (take-append-drop n o) ∙ rw (piece_is, d) at w.laid)

    pub walk_full : (v : ℕ) → decimal_of (take (e - at) (drop at t)) ≡ Some v → length o ≤ n → (Err TooMany ≡ end_of (length out) 0 (pieces_of t)) × (o ≡ laid_over (numbers_of (pieces_of t)) out)
    unfolding numbers_of then laid_over end_of goes_on
    walk_full v d f =
        let z : drop n o ≡ [] = drop_of_length-le o f in
        (rw (piece_is, d, le-ltb n (length out) (omega (arith, w.room))) at w.end, sym (take_all n o f) ∙ sym (append-nil (take n o)) ∙ rw (piece_is, d, z) at w.laid)

    pub walk_takes : (v : ℕ) → decimal_of (take (e - at) (drop at t)) ≡ Some v → n < length o → Walk t out e (n + 1) (set o n v)
    unfolding numbers_of then laid_over end_of goes_on
    walk_takes v d f = record {
      room = length-set o n v ∙ w.room;
      within = omega (arith, length-set o n v);
      end = rw add-one (rw (piece_is, d, lt-ltb n (length out) (omega (arith, w.room))) at w.end);
      laid = rw (add-one n, take-suc-set o n v f, drop-set-lt (suc n) o n v (omega arith), append_assoc (take n o) (v ∷ [])) (rw (piece_is, d, drop-cons o n 0 f) at w.laid);
    }

-- "3, 2,1" has three numbers; "7 x" stops at its third byte; there is no room for the second of "1 2"
pub texts : (numbers_of (pieces_of (51 ∷ 44 ∷ 32 ∷ 50 ∷ 44 ∷ 49 ∷ [])) ≡ 3 ∷ 2 ∷ 1 ∷ []) × (end_of 4 0 (pieces_of (55 ∷ 32 ∷ 120 ∷ [])) ≡ Err (NotANumber 2)) × (end_of 1 0 (pieces_of (49 ∷ 32 ∷ 50 ∷ [])) ≡ Err TooMany)
unfolding between pieces ended decimal_of value_from in_word numbers_of then end_of goes_on
texts = (refl, refl, refl)
