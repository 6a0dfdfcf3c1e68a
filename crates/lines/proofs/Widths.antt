-- How wide a number is shown.
use Prim.Native.Nat.{ℕ, zero, suc, ◌-◌, ◌*◌, ◌/◌, ◌%◌, ◌^◌, ◌≤◌, ◌<◌}
use mathlib.Core.Path.{◌≡◌, refl}
use mathlib.Core.Bool.{Bool, true, false, cond}
use mathlib.Core.List.{[], ◌∷◌}
use native.Mathlib.Omega.{arith}
use native.Mathlib.Nat.{pow-suc}
use borrow.Author.Tests.{lt-ltb}
use lib.Dec.{ltb}
use lib.ListN.{length, length-append, length-replicate}
use Rattle.io.specs.Digits.{last_digits, hex_digit_ascii}
use Rattle.lines.specs.Numeral.{places_to, places, spaces, numeral}

digits_length : (k n : ℕ) → length (last_digits 10 k n) ≡ k
digits_length zero n = refl
digits_length (suc k) n = omega (arith, length-append (last_digits 10 k (n / 10)) (hex_digit_ascii (n % 10) ∷ []), digits_length k (n / 10))

-- a number below 10 ^ k has at most k digits
places_most : (f n k : ℕ) → n < 10 ^ suc k → places_to f n ≤ suc k
unfolding places_to
places_most zero n k h = omega arith
places_most (suc f) n zero h = let s : n < 10 = h in rw (lt-ltb n 10 s) (omega arith)
places_most (suc f) n (suc k) h =
    let s : n < 10 ^ suc k * 10 = rw (pow-suc 10 (suc k)) at h in
    go (ltb n 10) (places_most f (n / 10) k (omega arith))
  where
    go : (c : Bool) → places_to f (n / 10) ≤ suc k → cond c 1 (suc (places_to f (n / 10))) ≤ suc (suc k)
    go true m = omega arith
    go false m = omega arith

-- a column is as wide as it says for every number that it has room for
pub column_wide : (w n : ℕ) → 0 < w → n < 10 ^ w → length (numeral w n) ≡ w
unfolding numeral
column_wide zero n z h = absurd (omega arith)
column_wide (suc w) n z h =
    let m : places n ≤ suc w = places_most 19 n w h in
    omega (arith, length-append (spaces (suc w - places n)) (last_digits 10 (places n) n), length-replicate {A = ℕ} (suc w - places n) 32, digits_length (places n) n)
