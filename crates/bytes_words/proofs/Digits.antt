-- The digits of a word are its bytes, the least first, and a word's bytes have its value.
use Prim.Native.Nat.{ℕ, zero, suc, ◌/◌, ◌^◌, ◌≤◌, ◌<◌}
use mathlib.Core.Path.{◌≡◌}
use mathlib.Core.List.{List, [], ◌∷◌}
use native.Mathlib.Omega.{arith}
use lib.ListN.{length, get_or, take}
use Rattle.std.specs.Int.{w64, to_le_bytes, from_le_bytes}
use Rattle.rules.specs.Snapshot.{digits, value_of_bytes}

-- the bytes of a word
pub le_digits : (n : ℕ) → to_le_bytes w64 n ≡ digits 8 n
unfolding digits
le_digits n =
    let two : n / 256 ^ 2 ≡ n / 256 / 256 = omega arith in
    let three : n / 256 ^ 3 ≡ n / 256 / 256 / 256 = omega arith in
    let four : n / 256 ^ 4 ≡ n / 256 / 256 / 256 / 256 = omega arith in
    let five : n / 256 ^ 5 ≡ n / 256 / 256 / 256 / 256 / 256 = omega arith in
    let six : n / 256 ^ 6 ≡ n / 256 / 256 / 256 / 256 / 256 / 256 = omega arith in
    let seven : n / 256 ^ 7 ≡ n / 256 / 256 / 256 / 256 / 256 / 256 / 256 = omega arith in
    rw (two, three, four, five, six, seven)

-- ---- the value

-- of eight bytes
pub le_value : (l : List ℕ) → length l ≡ 8 → from_le_bytes w64 l ≡ value_of_bytes l
unfolding value_of_bytes
le_value [] e = absurd (omega arith)
le_value (a ∷ []) e = absurd (omega arith)
le_value (a ∷ b ∷ []) e = absurd (omega arith)
le_value (a ∷ b ∷ c ∷ []) e = absurd (omega arith)
le_value (a ∷ b ∷ c ∷ d ∷ []) e = absurd (omega arith)
le_value (a ∷ b ∷ c ∷ d ∷ f ∷ []) e = absurd (omega arith)
le_value (a ∷ b ∷ c ∷ d ∷ f ∷ g ∷ []) e = absurd (omega arith)
le_value (a ∷ b ∷ c ∷ d ∷ f ∷ g ∷ h ∷ []) e = absurd (omega arith)
le_value (a ∷ b ∷ c ∷ d ∷ f ∷ g ∷ h ∷ i ∷ []) e = omega arith
le_value (a ∷ b ∷ c ∷ d ∷ f ∷ g ∷ h ∷ i ∷ j ∷ l) e = absurd (omega arith)

pub value_below : (n : ℕ) (l : List ℕ) → length l ≤ n → ((i : ℕ) → get_or l i 0 < 256) → value_of_bytes l < 256 ^ n
unfolding value_of_bytes
value_below zero [] h b = omega arith
value_below (suc n) [] h b = omega (arith, value_below n [] (omega arith) b)
value_below zero (x ∷ l) h b = absurd (omega arith)
value_below (suc n) (x ∷ l) h b = omega (arith, b 0, value_below n l (omega arith) (λ i. b (suc i)))

pub part_below : (n : ℕ) (l : List ℕ) → ((i : ℕ) → get_or l i 0 < 256) → (i : ℕ) → get_or (take n l) i 0 < 256
part_below zero l b i = omega arith
part_below (suc n) [] b i = omega arith
part_below (suc n) (x ∷ l) b zero = b 0
part_below (suc n) (x ∷ l) b (suc i) = part_below n l (λ j. b (suc j)) i
