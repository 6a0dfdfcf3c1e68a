-- A test of every row, by a loop that stops at the first that fails: what holds at each turn.
use Prim.Native.Nat.{ℕ, ◌+◌, ◌≤◌, ◌<◌}
use mathlib.Core.Path.{◌≡◌, refl, ap, sym, ◌∙◌}
use mathlib.Core.List.{List, [], ◌∷◌}
use mathlib.Core.Bool.{Bool, true, false}
use native.Mathlib.Numerals.{add-one}
use lib.ListN.{length, get_or, drop, drop_of_length-le}
use lib.Seq.{drop-cons}
use Rattle.rules.specs.Lists.{◌and◌, every}
use Rattle.rules.specs.Table.{Entry, Table, keys_of, keys_where}

-- F goes through a list, and g is its test of a row, which may look at the rows after it; v is the answer, of which the rows from i on are left
module _ {A : Type 0} (F : List A → Bool) (g : A → List A → Bool) (nil : F [] ≡ true) (cons : (x : A) (t : List A) → F (x ∷ t) ≡ (g x t and F t)) (v : Bool) (t : List A) (i : ℕ)
    (e : v ≡ F (drop i t)) where
  pub walk_ended : length t ≤ i → true ≡ v
  walk_ended h = sym (e ∙ ap F (drop_of_length-le t {i = i} h) ∙ nil)

  module _ (d : A) (h : i < length t) where
    step : v ≡ (g (get_or t i d) (drop (i + 1) t) and F (drop (i + 1) t))
    step = rw (add-one i) (e ∙ ap F (drop-cons t i d h) ∙ cons _ _)

    pub walk_passed : g (get_or t i d) (drop (i + 1) t) ≡ true → v ≡ F (drop (i + 1) t)
    unfolding ◌and◌
    walk_passed q = rw q at step

    pub walk_failed : g (get_or t i d) (drop (i + 1) t) ≡ false → false ≡ v
    unfolding ◌and◌
    walk_failed q = sym (rw q at step)

-- ---- a test of the row alone

module _ {A : Type 0} (f : A → Bool) (v : Bool) (t : List A) (i : ℕ) (e : v ≡ every f (drop i t)) where
  pub every_ended : length t ≤ i → true ≡ v
  unfolding every
  every_ended = walk_ended (every f) (λ x l. f x) refl (λ x l. refl) v t i e

  module _ (d : A) (h : i < length t) where
    pub every_passed : f (get_or t i d) ≡ true → v ≡ every f (drop (i + 1) t)
    unfolding every
    every_passed = walk_passed (every f) (λ x l. f x) refl (λ x l. refl) v t i e d h

    pub every_failed : f (get_or t i d) ≡ false → false ≡ v
    unfolding every
    every_failed = walk_failed (every f) (λ x l. f x) refl (λ x l. refl) v t i e d h

-- ---- a test of the row's key

module _ {A : Type 0} (f : ℕ → Bool) (v : Bool) (t : Table A) (i : ℕ) (e : v ≡ every f (keys_of (drop i t))) where
  pub keys_ended : length t ≤ i → true ≡ v
  unfolding every keys_of keys_where
  keys_ended = walk_ended (λ l. every f (keys_of l)) (λ x l. f x.key) refl (λ x l. refl) v t i e

  module _ (d : Entry A) (h : i < length t) where
    pub keys_passed : f (get_or t i d).key ≡ true → v ≡ every f (keys_of (drop (i + 1) t))
    unfolding every keys_of keys_where
    keys_passed = walk_passed (λ l. every f (keys_of l)) (λ x l. f x.key) refl (λ x l. refl) v t i e d h

    pub keys_failed : f (get_or t i d).key ≡ false → false ≡ v
    unfolding every keys_of keys_where
    keys_failed = walk_failed (λ l. every f (keys_of l)) (λ x l. f x.key) refl (λ x l. refl) v t i e d h
