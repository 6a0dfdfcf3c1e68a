-- The digits that a number needs are those that `io::decimal` counts.
use Prim.Native.Nat.{ℕ, zero, suc, ◌-◌, ◌*◌, ◌/◌, ◌^◌, ◌≤◌, ◌<◌}
use mathlib.Core.Path.{◌≡◌, refl, ap}
use mathlib.Core.Bool.{Bool, true, false}
use mathlib.Core.List.{[], ◌∷◌}
use native.Mathlib.Omega.{arith}
use native.Mathlib.Nat.{pow-suc, one-le-pow, pow-le-pow_right}
use borrow.Author.Tests.{lt-ltb, le-ltb, ltb-true, ltb-false}
use lib.Dec.{ltb}
use Rattle.io.specs.Digits.{IsDigitCount}
use Rattle.lines.specs.Numeral.{places_to, places, numeral}

fewest : (f n k : ℕ) → IsDigitCount 10 1 n k → k ≤ suc f → places_to f n ≡ k
unfolding places_to
fewest zero n k w h = omega (arith, w.0)
fewest (suc f) n zero w h = absurd (omega (arith, w.0))
fewest (suc f) n (suc zero) w h = rw (lt-ltb n 10 (omega (arith, w.1)))
fewest (suc f) n (suc (suc j)) w h =
    let z : suc (suc j) - 1 ≡ suc j = omega arith in
    let lo : 10 ^ j * 10 ≤ n = rw (z, pow-suc 10 j) at (w.2 (omega arith)) in
    let hi : n < 10 ^ suc j * 10 = rw (pow-suc 10 (suc j)) at w.1 in
    let y : suc j - 1 ≡ j = omega arith in
    let one = one-le-pow j 10 (omega arith) in
    rw (le-ltb n 10 (omega arith)) (ap suc (fewest f (n / 10) (suc j) (omega arith, omega arith, λ _. rw y (omega arith)) (omega arith)))

-- a word is below 10 ^ 20
pub places_is : (n k : ℕ) → IsDigitCount 10 1 n k → n < 100000000000000000000 → places n ≡ k
places_is n k w h = fewest 19 n k w (most (ltb 20 k) refl)
  where
    most : (b : Bool) → ltb 20 k ≡ b → k ≤ 20
    most false e = ltb-false 20 k e
    most true e =
        let g = ltb-true 20 k e in
        absurd (omega (arith, w.2 (omega arith), pow-le-pow_right {n = 10} (omega arith) {i = 20} {j = k - 1} (omega arith)))

-- a column of five, and one that is too narrow
pub columns : (numeral 5 42 ≡ 32 ∷ 32 ∷ 32 ∷ 52 ∷ 50 ∷ []) × (numeral 1 100 ≡ 49 ∷ 48 ∷ 48 ∷ [])
unfolding numeral places_to
columns = (refl, refl)
