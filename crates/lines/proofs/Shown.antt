-- What is shown of a number is read as it.
use Prim.Native.Nat.{ℕ, zero, suc, ◌+◌, ◌-◌, ◌*◌, ◌/◌, ◌%◌, ◌^◌, ◌≤◌, ◌<◌}
use mathlib.Core.Path.{◌≡◌, refl, ap, ◌∙◌}
use mathlib.Core.Bool.{Bool, true, false, cond}
use mathlib.Core.List.{List, [], ◌∷◌, ◌++◌}
use Rattle.std.specs.Prelude.{Some, None}
use native.Mathlib.Omega.{arith}
use native.Mathlib.Nat.{pow-suc}
use borrow.Author.Tests.{lt-ltb, ltb-true, le-leb}
use lib.Dec.{ltb}
use lib.ListN.{length, length-append}
use Rattle.io.specs.Digits.{last_digits, hex_digit_ascii}
use Rattle.numerals.specs.Decimal.{last_number, is_digit, value_from, in_word, decimal_of}
use Rattle.lines.specs.Numeral.{places_to, places, numeral}

-- one digit more
value_more : (v w b : ℕ) (l : List ℕ) → value_from v l ≡ Some w → value_from v (l ++ b ∷ []) ≡ value_from w (b ∷ [])
unfolding value_from
value_more v w b [] e = let s : v ≡ w = cc in rw s
value_more v w b (c ∷ l) e = go (is_digit c) e (value_more (v * 10 + (c - 48)) w b l)
  where
    go : (d : Bool) → cond d (value_from (v * 10 + (c - 48)) l) None ≡ Some w
        → (value_from (v * 10 + (c - 48)) l ≡ Some w → value_from (v * 10 + (c - 48)) (l ++ b ∷ []) ≡ value_from w (b ∷ []))
        → cond d (value_from (v * 10 + (c - 48)) (l ++ b ∷ [])) None ≡ value_from w (b ∷ [])
    go true e rec = rec e
    go false e rec = absurd (let z : ◌≡◌ {A = ℕ} 0 1 = cc in omega arith)

digits_value : (k n : ℕ) → n < 10 ^ k → value_from 0 (last_digits 10 k n) ≡ Some n
unfolding value_from
digits_value zero n h = let z : 0 ≡ n = omega arith in ap Some z
digits_value (suc k) n h =
    let s : n < 10 ^ k * 10 = rw (pow-suc 10 k) at h in
    let g : hex_digit_ascii (n % 10) ≡ 48 + n % 10 = rw (lt-ltb (n % 10) 10 (omega arith)) in
    let v : n / 10 * 10 + (48 + n % 10 - 48) ≡ n = omega arith in
    value_more 0 (n / 10) (hex_digit_ascii (n % 10)) (last_digits 10 k (n / 10)) (digits_value k (n / 10) (omega arith))
    ∙ rw (g, le-leb 48 (48 + n % 10) (omega arith), le-leb (48 + n % 10) 57 (omega arith), v)

-- a number has as many digits as it needs
enough : (f n : ℕ) → n < 10 ^ suc f → n < 10 ^ places_to f n
unfolding places_to
enough zero n h = h
enough (suc f) n h = go (ltb n 10) refl (enough f (n / 10))
  where
    go : (c : Bool) → ltb n 10 ≡ c → (n / 10 < 10 ^ suc f → n / 10 < 10 ^ places_to f (n / 10)) → n < 10 ^ cond c 1 (suc (places_to f (n / 10)))
    go true e rec = ltb-true n 10 e
    go false e rec =
        let s : n < 10 ^ suc f * 10 = rw (pow-suc 10 (suc f)) at h in
        let r = rec (omega arith) in
        rw (pow-suc 10 (places_to f (n / 10))) (omega arith)

decimal_is : (l : List ℕ) (n : ℕ) → 0 < length l → value_from 0 l ≡ Some n → n ≤ last_number → decimal_of l ≡ Some n
unfolding decimal_of in_word
decimal_is [] n h e s = absurd (omega arith)
decimal_is (b ∷ l) n h e s = rw (e, le-leb n last_number s)

digits_some : (k n : ℕ) → 0 < k → 0 < length (last_digits 10 k n)
digits_some zero n h = absurd (omega arith)
digits_some (suc k) n h = omega (arith, length-append (last_digits 10 k (n / 10)) (hex_digit_ascii (n % 10) ∷ []))

places_some : (f n : ℕ) → 0 < places_to f n
unfolding places_to
places_some zero n = omega arith
places_some (suc f) n = go (ltb n 10)
  where
    go : (c : Bool) → 0 < cond c 1 (suc (places_to f (n / 10)))
    go true = omega arith
    go false = omega arith

pub shown_is_read : (n : ℕ) → n ≤ last_number → decimal_of (numeral 0 n) ≡ Some n
unfolding numeral
shown_is_read n h =
    let z : 0 - places n ≡ 0 = omega arith in
    rw z (decimal_is (last_digits 10 (places n) n) n (digits_some (places n) n (places_some 19 n)) (digits_value (places n) n (enough 19 n (omega arith))) h)
