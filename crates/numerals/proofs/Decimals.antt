-- A number read digit by digit.
use Prim.Native.Nat.{ℕ, ◌+◌, ◌-◌, ◌*◌, ◌^◌, ◌≤◌, ◌<◌}
use mathlib.Core.Path.{◌≡◌, refl, ap, ◌∙◌}
use mathlib.Core.Bool.{Bool, true, false, cond}
use mathlib.Core.List.{List, [], ◌∷◌}
use Rattle.std.specs.Prelude.{Option, Some, None, SomeIff}
use native.Mathlib.Omega.{arith}
use native.Mathlib.Numerals.{add-one}
use borrow.Author.Tests.{le-leb, lt-leb, leb-true, leb-false}
use lib.Dec.{leb}
use lib.ListN.{length, get_or, drop, drop_of_length-le}
use lib.Seq.{drop-cons}
use Rattle.numerals.specs.Decimal.{last_number, is_digit, value_from, in_word, decimal_of}

-- a number that a word holds, or none
pub word_or_none : (o : Option ℕ) (n : ℕ) → SomeIff o (n < 2 ^ 64) n → o ≡ in_word (Some n)
unfolding in_word
word_or_none None n h = rw (lt-leb n last_number (omega arith))
word_or_none (Some x) n h = rw (le-leb n last_number (omega (arith, h.0)), h.1)

-- one byte after v
module _ (v b : ℕ) where
  pub no_digit : is_digit b ≡ false → None ≡ in_word (value_from v (b ∷ []))
  unfolding value_from in_word
  no_digit e = rw e

  pub a_digit : is_digit b ≡ true → in_word (value_from v (b ∷ [])) ≡ in_word (Some (v * 10 + (b - 48)))
  unfolding value_from
  a_digit e = rw e

  pub none_fits : is_digit b ≡ true → (v * 10 < 2 ^ 64 → ⊥) → None ≡ in_word (value_from v (b ∷ []))
  unfolding in_word
  none_fits e h = rw (a_digit e, lt-leb (v * 10 + (b - 48)) last_number (omega arith))

-- digits only make it larger
over : (v : ℕ) (l : List ℕ) → last_number < v → in_word (value_from v l) ≡ None
unfolding value_from in_word
over v [] h = rw (lt-leb v last_number h)
over v (b ∷ l) h = go (is_digit b) (over (v * 10 + (b - 48)) l (omega arith))
  where
    go : (d : Bool) → in_word (value_from (v * 10 + (b - 48)) l) ≡ None → in_word (cond d (value_from (v * 10 + (b - 48)) l) None) ≡ None
    go true e = e
    go false e = refl

-- one digit tells how it goes on
digit_more : (v b w : ℕ) (l : List ℕ) → in_word (value_from v (b ∷ [])) ≡ Some w → (in_word (value_from v (b ∷ l)) ≡ in_word (value_from w l)) × (w ≤ last_number)
unfolding value_from in_word
digit_more v b w l e = go (is_digit b) (leb (v * 10 + (b - 48)) last_number) refl e
  where
    go : (d f : Bool) → leb (v * 10 + (b - 48)) last_number ≡ f → in_word (cond d (Some (v * 10 + (b - 48))) None) ≡ Some w
        → (in_word (cond d (value_from (v * 10 + (b - 48)) l) None) ≡ in_word (value_from w l)) × (w ≤ last_number)
    go false f u e = absurd (let z : ◌≡◌ {A = ℕ} 0 1 = cc in omega arith)
    go true true u e =
        let s : v * 10 + (b - 48) ≡ w = let x = rw u at e in cc in
        (ap (λ (n : ℕ). in_word (value_from n l)) s, omega (arith, leb-true (v * 10 + (b - 48)) last_number u))
    go true false u e = absurd (let x = rw u at e in let z : ◌≡◌ {A = ℕ} 0 1 = cc in omega arith)

digit_none : (v b : ℕ) (l : List ℕ) → in_word (value_from v (b ∷ [])) ≡ None → in_word (value_from v (b ∷ l)) ≡ None
unfolding value_from in_word
digit_none v b l e = go (is_digit b) (leb (v * 10 + (b - 48)) last_number) refl e
  where
    go : (d f : Bool) → leb (v * 10 + (b - 48)) last_number ≡ f → in_word (cond d (Some (v * 10 + (b - 48))) None) ≡ None
        → in_word (cond d (value_from (v * 10 + (b - 48)) l) None) ≡ None
    go false f u e = refl
    go true true u e = absurd (let x = rw u at e in let z : ◌≡◌ {A = ℕ} 0 1 = cc in omega arith)
    go true false u e = over (v * 10 + (b - 48)) l (leb-false _ last_number u)

-- ---- a loop that reads t: the start, a turn, a byte that ends it, and the end

pub parse_starts : (t : List ℕ) → 0 < length t → decimal_of t ≡ in_word (value_from 0 t)
unfolding decimal_of
parse_starts [] h = absurd (omega arith)
parse_starts (b ∷ t) h = refl

pub parse_nothing : (t : List ℕ) → length t ≡ 0 → decimal_of t ≡ None
unfolding decimal_of
parse_nothing [] h = refl
parse_nothing (b ∷ t) h = absurd (omega arith)

module _ (t : List ℕ) (v i : ℕ) (e : decimal_of t ≡ in_word (value_from v (drop i t))) where
  pub parse_goes_on : (w : ℕ) → i < length t → in_word (value_from v (get_or t i 0 ∷ [])) ≡ Some w
      → (decimal_of t ≡ in_word (value_from w (drop (i + 1) t))) × (w ≤ last_number)
  parse_goes_on w h n =
      let m = digit_more v (get_or t i 0) w (drop (i + 1) t) n in
      (e ∙ rw (drop-cons t i 0 h, ← add-one i) m.0, m.1)

  pub parse_stops : i < length t → in_word (value_from v (get_or t i 0 ∷ [])) ≡ None → decimal_of t ≡ None
  parse_stops h n = e ∙ rw (drop-cons t i 0 h) (digit_none v (get_or t i 0) _ n)

  pub parse_ends : length t ≤ i → v ≤ last_number → decimal_of t ≡ Some v
  unfolding value_from in_word
  parse_ends h s = e ∙ rw (drop_of_length-le t {i = i} h, le-leb v last_number s)
