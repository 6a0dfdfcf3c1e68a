-- A test of every element of a list, by a loop: what holds at each turn.
use Prim.Native.Nat.{ℕ, zero, suc, ◌+◌, ◌-◌, ◌≤◌, ◌<◌}
use mathlib.Core.Path.{◌≡◌, refl, ap, sym, ◌∙◌}
use mathlib.Core.List.{List, [], ◌∷◌, ◌++◌}
use mathlib.Core.Bool.{Bool, true, false, not, ◌&&◌, and_assoc, and-true}
use native.Mathlib.Omega.{arith}
use native.Mathlib.Numerals.{add-one}
use borrow.Author.Tests.{eq-eqb, ne_eqb, eqb-true, eqb-false}
use lib.Bits.{bit_or, bit_and, or_add_and, and_le_l, and_le_r}
use lib.Dec.{eqb}
use lib.ListN.{length, get_or, take, drop, take-append-drop, drop_of_length-le, length-drop}
use lib.Seq.{drop-cons, drop-drop, take_all}
use Rattle.rules.specs.Lists.{◌or◌, every, any, has}
use Rattle.word_tests.specs.Tests.{all_zero}
use Rattle.word_tests.proofs.Tests.{and_is}

-- F goes through a list, and g is its test of an element, which may look at the elements after it
module _ (F : List ℕ → Bool) (g : ℕ → List ℕ → Bool) (nil : F [] ≡ true) (cons : (x : ℕ) (t : List ℕ) → F (x ∷ t) ≡ (g x t && F t)) where
  step : (t : List ℕ) (i : ℕ) → i < length t → F (drop i t) ≡ (g (get_or t i 0) (drop (i + 1) t) && F (drop (i + 1) t))
  step t i h = rw (add-one i) (ap F (drop-cons t i 0 h) ∙ cons _ _)

  -- without a branch: what was seen, and what is still to come
  pub gather : {b : Bool} (t : List ℕ) (i : ℕ) (ok : Bool) → i < length t → b ≡ (ok && F (drop i t)) → b ≡ (ok && g (get_or t i 0) (drop (i + 1) t) && F (drop (i + 1) t))
  gather t i ok h e = e ∙ ap (λ (b : Bool). ok && b) (step t i h) ∙ sym (and_assoc ok (g (get_or t i 0) (drop (i + 1) t)) (F (drop (i + 1) t)))

  pub gathered : {b : Bool} (t : List ℕ) (i : ℕ) (ok : Bool) → length t ≤ i → b ≡ (ok && F (drop i t)) → ok ≡ b
  gathered t i ok h e = sym (e ∙ ap (λ (b : Bool). ok && b) (ap F (drop_of_length-le t h) ∙ nil) ∙ and-true ok)

-- ---- zeros

abbrev pub is_zero : ℕ → List ℕ → Bool
is_zero x t = eqb x 0

pub zero_nil : all_zero [] ≡ true
unfolding every
zero_nil = refl

pub zero_cons : (x : ℕ) (t : List ℕ) → all_zero (x ∷ t) ≡ (is_zero x t && all_zero t)
unfolding every
zero_cons x t = and_is (eqb x 0) (all_zero t)

-- the bits of two numbers together
zero_both : (a b : ℕ) → (eqb a 0 && eqb b 0) ≡ eqb (bit_or a b) 0
zero_both a b = go (eqb a 0) (eqb b 0) refl refl
  where
    sum : bit_or a b + bit_and a b ≡ a + b
    sum = or_add_and a b

    go : (p q : Bool) → eqb a 0 ≡ p → eqb b 0 ≡ q → (eqb a 0 && eqb b 0) ≡ eqb (bit_or a b) 0
    go true true x y = rw (x, y) (sym (eq-eqb (bit_or a b) 0 (omega (arith, sum, eqb-true a 0 x, eqb-true b 0 y))))
    go true false x y = rw (x, y) (sym (ne_eqb (bit_or a b) 0 (λ e. eqb-false b 0 y (omega (arith, e, sum, and_le_l a b)))))
    go false q x y = rw x (sym (ne_eqb (bit_or a b) 0 (λ e. eqb-false a 0 x (omega (arith, e, sum, and_le_r a b)))))

pub zero_more : (t : List ℕ) (i bits : ℕ) → i < length t → all_zero t ≡ (eqb bits 0 && all_zero (drop i t)) → all_zero t ≡ (eqb (bit_or bits (get_or t i 0)) 0 && all_zero (drop (i + 1) t))
zero_more t i bits h e = gather all_zero is_zero zero_nil zero_cons t i (eqb bits 0) h e ∙ ap (λ (b : Bool). b && all_zero (drop (i + 1) t)) (zero_both bits (get_or t i 0))

zeros_append : (s t : List ℕ) → all_zero (s ++ t) ≡ (all_zero s && all_zero t)
zeros_append [] t = rw zero_nil
zeros_append (x ∷ s) t =
    zero_cons x (s ++ t) ∙ ap (λ (b : Bool). eqb x 0 && b) (zeros_append s t) ∙ sym (and_assoc (eqb x 0) (all_zero s) (all_zero t)) ∙ ap (λ (b : Bool). b && all_zero t) (sym (zero_cons x s))

-- two parts and the rest
module _ (t : List ℕ) (h e : ℕ) (m : h ≤ e) where
  abbrev Halves : Bool
  Halves = all_zero (take h t) && all_zero (take (e - h) (drop h t))

  by_halves : all_zero t ≡ (Halves && all_zero (drop e t))
  by_halves =
      let z : h + (e - h) ≡ e = omega arith in
      ap all_zero (sym (take-append-drop h t)) ∙ zeros_append (take h t) (drop h t)
      ∙ ap (λ (b : Bool). all_zero (take h t) && b) (ap all_zero (sym (take-append-drop (e - h) (drop h t))) ∙ zeros_append (take (e - h) (drop h t)) (drop (e - h) (drop h t)))
      ∙ sym (and_assoc (all_zero (take h t)) (all_zero (take (e - h) (drop h t))) (all_zero (drop (e - h) (drop h t))))
      ∙ ap (λ (u : List ℕ). Halves && all_zero u) (drop-drop (e - h) h t ∙ ap (λ (k : ℕ). drop k t) z)

  pub halves_all : length t ≤ e → Halves ≡ all_zero t
  halves_all l = sym (by_halves ∙ rw (drop_of_length-le t l, zero_nil) (and-true Halves))

  pub halves_and_one : length t ≡ e + 1 → (Halves && eqb (get_or t e 0) 0) ≡ all_zero t
  halves_and_one l =
      let n : drop (e + 1) t ≡ [] = drop_of_length-le t {i = e + 1} (omega arith) in
      sym (by_halves ∙ ap (λ (b : Bool). Halves && b) (step all_zero is_zero zero_nil zero_cons t e (omega arith) ∙ rw (n, zero_nil) (and-true (eqb (get_or t e 0) 0))))

-- ---- a number that is not there

abbrev pub lacks : ℕ → List ℕ → Bool
lacks x t = not (has x t)

abbrev pub is_not : ℕ → ℕ → List ℕ → Bool
is_not x y t = not (eqb y x)

pub lacks_nil : (x : ℕ) → lacks x [] ≡ true
unfolding has any
lacks_nil x = refl

not_or : (a b : Bool) → not (a or b) ≡ (not a && not b)
unfolding ◌or◌
not_or true b = refl
not_or false b = refl

pub lacks_cons : (x y : ℕ) (t : List ℕ) → lacks x (y ∷ t) ≡ (is_not x y t && lacks x t)
unfolding has any
lacks_cons x y t = not_or (eqb y x) (has x t)

-- ---- the rest of a list, lent as a part

pub rest_is : (t : List ℕ) (a : ℕ) → take (length t - a) (drop a t) ≡ drop a t
rest_is t a = take_all (length t - a) (drop a t) (omega (arith, length-drop a t))

-- what is read past the end
pub none_at : (t : List ℕ) (i : ℕ) → length t ≤ i → 0 ≡ get_or t i 0
none_at [] i h = refl
none_at (x ∷ t) zero h = absurd (omega arith)
none_at (x ∷ t) (suc i) h = none_at t i (omega arith)
