-- The words at a place as a list of their own: each by its place among all, and those after one.
use Prim.Native.Nat.{ℕ, zero, suc, ◌+◌, ◌-◌, ◌*◌, ◌/◌, ◌≤◌, ◌<◌}
use mathlib.Core.Path.{◌≡◌, refl, ap, sym, ◌∙◌}
use mathlib.Core.List.{List, [], ◌∷◌}
use native.Mathlib.Omega.{arith}
use lib.ListN.{length, get_or, take, drop, length-drop}
use lib.Seq.{drop-drop, get_or-drop, get_or-take, length-take-le}
use Rattle.rules.specs.Snapshot.{value_of_bytes, read_words}
use Rattle.word_tests.proofs.Loops.{rest_is}
use Rattle.unpacking.specs.AsWords.{AsWords}
use Rattle.unpacking.proofs.Bytes.{total, word_is}

-- n words from `at` on
abbrev pub from : ℕ → ℕ → List ℕ → List ℕ
from n at ws = take n (drop at ws)

drop_take : (i n : ℕ) (l : List ℕ) → i ≤ n → drop i (take n l) ≡ take (n - i) (drop i l)
drop_take zero n l h = let z : n ≡ n - 0 = omega arith in ap (λ (k : ℕ). take k l) z
drop_take (suc i) zero l h = absurd (omega arith)
drop_take (suc i) (suc n) [] h = go (suc n - suc i)
  where
    go : (k : ℕ) → ◌≡◌ {A = List ℕ} [] (take k [])
    go zero = refl
    go (suc k) = refl
drop_take (suc i) (suc n) (x ∷ l) h = let z : n - i ≡ suc n - suc i = omega arith in drop_take i n l (omega arith) ∙ ap (λ (k : ℕ). take k (drop i l)) z

pub read_length : (n : ℕ) (bs : List ℕ) → length (read_words n bs) ≡ n
unfolding read_words
read_length zero bs = refl
read_length (suc n) bs = ap suc (read_length n (drop 8 bs))

pub below_count : (n i : ℕ) (bs : List ℕ) → i < length (read_words n bs) → i < n
below_count n i bs h = omega (arith, read_length n bs)

read_word : (n i : ℕ) (bs : List ℕ) → i < n → value_of_bytes (take 8 (drop (8 * i) bs)) ≡ get_or (read_words n bs) i 0
unfolding read_words
read_word zero i bs h = absurd (omega arith)
read_word (suc n) zero bs h = refl
read_word (suc n) (suc i) bs h =
    let z : 8 * suc i ≡ 8 + 8 * i = omega arith in rw z (ap (λ (l : List ℕ). value_of_bytes (take 8 l)) (sym (drop-drop (8 * i) 8 bs)) ∙ read_word n i (drop 8 bs) (omega arith))

-- word i of those that are read from a place on
pub read_at : (n at i : ℕ) (bs : List ℕ) → i < n → value_of_bytes (take 8 (drop (8 * (at + i)) bs)) ≡ get_or (read_words n (drop (8 * at) bs)) i 0
read_at n at i bs h =
    let z : 8 * (at + i) ≡ 8 * at + 8 * i = omega arith in
    ap (λ (k : ℕ). value_of_bytes (take 8 (drop k bs))) z ∙ ap (λ (l : List ℕ). value_of_bytes (take 8 l)) (sym (drop-drop (8 * i) (8 * at) bs)) ∙ read_word n i (drop (8 * at) bs) h

module _ {bs ws : List ℕ} (h : AsWords bs ws) (at n : ℕ) (room : at + n ≤ length bs / 8) where
  pub from_length : length (from n at ws) ≡ n
  from_length = length-take-le n (drop at ws) (omega (arith, length-drop at ws, total h))

  pub from_word : (i : ℕ) → i < n → value_of_bytes (take 8 (drop (8 * (at + i)) bs)) ≡ get_or (from n at ws) i 0
  from_word i l = word_is h (at + i) (omega (arith, total h)) ∙ sym (get_or-take n (drop at ws) i 0 l ∙ get_or-drop at ws i 0)

  -- those after the first i
  pub from_rest : (i : ℕ) → i ≤ n → from (n - i) (at + i) ws ≡ take (length (from n at ws) - i) (drop i (from n at ws))
  from_rest i l =
      sym (rest_is (from n at ws) i ∙ drop_take i n (drop at ws) l ∙ ap (take (n - i)) (drop-drop i at ws))
