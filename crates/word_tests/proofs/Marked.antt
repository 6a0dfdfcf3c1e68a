-- Marks by the last nine bits: a number whose mark has not this stamp is not there yet.
use Prim.Native.Nat.{ℕ, zero, suc, ◌-◌, ◌%◌, ◌≤◌, ◌<◌}
use mathlib.Core.Path.{◌≡◌, refl, ap, sym, subst, ◌∙◌}
use mathlib.Core.List.{List, [], ◌∷◌}
use mathlib.Core.Logic.{◌⊎◌, inl, inr}
use mathlib.Core.Bool.{Bool, true, false, not, false≢true}
use native.Mathlib.Omega.{arith}
use lib.Dec.{eqb}
use lib.ListN.{length, get_or, set, drop, drop_of_length-le}
use lib.Seq.{get_or-set_same, get_or-set_other, drop-cons}
use Rattle.rules.specs.Lists.{◌and◌, any, has, distinct}
use Rattle.rules.proofs.Counts.{Alike, same, apart, alike}
use Rattle.rules.proofs.Tests.{or_cases}
use Rattle.word_tests.specs.Tests.{mark_count}

-- each number of a list has set its mark to a stamp
abbrev pub Marked : ℕ → List ℕ → List ℕ → Type 0
Marked stamp marks l = (y : ℕ) → has y l ≡ true → get_or marks (y % mark_count) 0 ≡ stamp

pub none_left : {A : Type 0} (t : List ℕ) (y : ℕ) → has y (drop (length t) t) ≡ true → A
unfolding has any
none_left t y h = absurd (false≢true (sym (ap (has y) (drop_of_length-le t {i = length t} (omega arith))) ∙ h))

module _ (stamp : ℕ) where
  marked_set : (marks : List ℕ) (k j : ℕ) → k < length marks → get_or marks j 0 ≡ stamp → get_or (set marks k stamp) j 0 ≡ stamp
  marked_set marks k j h e = go (alike j k)
    where
      go : Alike j k → get_or (set marks k stamp) j 0 ≡ stamp
      go (same p q) = subst (λ (i : ℕ). get_or (set marks k stamp) i 0 ≡ stamp) (sym p) (get_or-set_same marks k stamp 0 h)
      go (apart p q) = get_or-set_other marks k j stamp 0 p ∙ e

  marked_more : (marks : List ℕ) (x : ℕ) (l : List ℕ) → length marks ≡ mark_count → Marked stamp marks l → Marked stamp (set marks (x % mark_count) stamp) (x ∷ l)
  unfolding has any
  marked_more marks x l n h y e = go (alike x y) (or_cases (eqb x y) (has y l) e)
    where
      there : x % mark_count < length marks
      there = omega arith

      go : Alike x y → (eqb x y ≡ true) ⊎ (has y l ≡ true) → get_or (set marks (x % mark_count) stamp) (y % mark_count) 0 ≡ stamp
      go (same p q) d = subst (λ (z : ℕ). get_or (set marks (x % mark_count) stamp) (z % mark_count) 0 ≡ stamp) p (get_or-set_same marks (x % mark_count) stamp 0 there)
      go (apart p q) (inl r) = absurd (false≢true (sym q ∙ r))
      go (apart p q) (inr r) = marked_set marks (x % mark_count) (y % mark_count) there (h y r)

pub distinct_end : (t : List ℕ) → distinct (drop (length t) t) ≡ true
unfolding distinct
distinct_end t = ap distinct (drop_of_length-le t {i = length t} (omega arith))

not_not : (b : Bool) → not (not b) ≡ b
not_not true = refl
not_not false = refl

and_no : (a b : Bool) → b ≡ false → (a and b) ≡ false
unfolding ◌and◌
and_no true b h = h
and_no false b h = refl

distinct_rest : (t : List ℕ) (i : ℕ) → distinct (drop i t) ≡ false → false ≡ distinct t
unfolding distinct
distinct_rest t zero h = sym h
distinct_rest [] (suc i) h = sym h
distinct_rest (x ∷ t) (suc i) h = sym (and_no (not (has x t)) (distinct t) (sym (distinct_rest t i h)))

-- one turn: x is word i - 1, those after it are distinct and marked
module _ (stamp : ℕ) (t : List ℕ) (i : ℕ) (marks : List ℕ) (n : length marks ≡ mark_count) (low : 0 < i) (high : i ≤ length t) (d : distinct (drop i t) ≡ true) (m : Marked stamp marks (drop i t))
    (x : ℕ) (e : x ≡ get_or t (i - 1) 0) where
  front : drop (i - 1) t ≡ x ∷ drop i t
  front =
      let z : suc (i - 1) ≡ i = omega arith in
      drop-cons t (i - 1) 0 (omega arith) ∙ ap (λ (k : ℕ). get_or t (i - 1) 0 ∷ drop k t) z ∙ ap (λ (y : ℕ). y ∷ drop i t) (sym e)

  pub turn_marks : Marked stamp (set marks (x % mark_count) stamp) (drop (i - 1) t)
  turn_marks = subst (Marked stamp (set marks (x % mark_count) stamp)) (sym front) (marked_more stamp marks x (drop i t) n m)

  goes_on : has x (drop i t) ≡ false → distinct (drop (i - 1) t) ≡ true
  unfolding distinct ◌and◌
  goes_on q = ap distinct front ∙ rw (q, d) refl

  -- it was not held against those after it
  pub turn_unmarked : (get_or marks (x % mark_count) 0 ≡ stamp → ⊥) → distinct (drop (i - 1) t) ≡ true
  turn_unmarked f = goes_on (go (has x (drop i t)) refl)
    where
      go : (b : Bool) → has x (drop i t) ≡ b → has x (drop i t) ≡ false
      go false p = p
      go true p = absurd (f (m x p))

  -- it was, and r tells that they lack it
  module _ (k : ℕ) (s : k ≡ i) (r : Bool) (told : r ≡ not (has x (drop k t))) where
    is : (b : Bool) → not r ≡ b → has x (drop i t) ≡ b
    is b q = ap (λ (j : ℕ). has x (drop j t)) (sym s) ∙ sym (not_not (has x (drop k t))) ∙ ap not (sym told) ∙ q

    pub turn_apart : r ≡ true → distinct (drop (i - 1) t) ≡ true
    turn_apart q = goes_on (is false (ap not q))

    pub turn_fails : r ≡ false → false ≡ distinct t
    unfolding distinct ◌and◌
    turn_fails q = distinct_rest t (i - 1) (ap distinct front ∙ rw (is true (ap not q)) refl)
