-- The pool from row i on, as a loop goes.
use Prim.Native.Nat.{ℕ, suc, ◌+◌, ◌-◌, ◌≤◌, ◌<◌}
use mathlib.Core.Path.{◌≡◌, refl, ap, sym, ◌∙◌}
use mathlib.Core.List.{List, [], ◌∷◌}
use mathlib.Core.Bool.{Bool, true, false}
use native.Mathlib.Omega.{arith}
use native.Mathlib.Numerals.{add-one}
use lib.ListN.{length, get_or, drop, drop_of_length-le}
use lib.Seq.{drop-cons}
use Rattle.rules.specs.Lists.{bit_of}
use Rattle.rules.specs.Table.{Entry, Table, keys_where}

pub bit_most : (c : Bool) → bit_of c ≤ 1
bit_most true = omega arith
bit_most false = omega arith

module _ {A : Type 0} (f : A → Bool) (t : Table A) (i : ℕ) where
  pub keys_none : length t ≤ i → keys_where f (drop i t) ≡ []
  unfolding keys_where
  keys_none h = ap (keys_where f) (drop_of_length-le t {i = i} h)

  module _ (d : Entry A) (h : i < length t) where
    pub keys_here : f (get_or t i d).val ≡ true → keys_where f (drop i t) ≡ (get_or t i d).key ∷ keys_where f (drop (i + 1) t)
    unfolding keys_where
    keys_here e = rw (add-one i) (ap (keys_where f) (drop-cons t i d h) ∙ rw e)

    pub keys_past : f (get_or t i d).val ≡ false → keys_where f (drop i t) ≡ keys_where f (drop (i + 1) t)
    unfolding keys_where
    keys_past e = rw (add-one i) (ap (keys_where f) (drop-cons t i d h) ∙ rw e)

    pub keys_counted : length (keys_where f (drop i t)) ≡ bit_of (f (get_or t i d).val) + length (keys_where f (drop (i + 1) t))
    keys_counted = go (f (get_or t i d).val) refl
      where
        go : (c : Bool) → f (get_or t i d).val ≡ c → length (keys_where f (drop i t)) ≡ bit_of c + length (keys_where f (drop (i + 1) t))
        go true e = rw (keys_here e) (omega arith)
        go false e = rw (keys_past e) (omega arith)

-- ---- a rank among the keys from row i on

module _ {A : Type 0} (f : A → Bool) where
  abbrev pub Ranked : Table A → ℕ → ℕ → ℕ → Type 0
  Ranked t i k x = (k < length (keys_where f (drop i t))) × (get_or (keys_where f (drop i t)) k 0 ≡ x)

module _ {A : Type 0} (f : A → Bool) (t : Table A) (i k x : ℕ) (r : Ranked f t i k x) where
  pub rank_ended : length t ≤ i → ⊥
  rank_ended h = omega (arith, ap length (keys_none f t i h), r.0)

  module _ (d : Entry A) (h : i < length t) where
    pub rank_found : f (get_or t i d).val ≡ true → k ≡ 0 → (get_or t i d).key ≡ x
    rank_found e z = sym (ap (λ (l : List ℕ). get_or l 0 0) (keys_here f t i d h e)) ∙ ap (λ (m : ℕ). get_or (keys_where f (drop i t)) m 0) (sym z) ∙ r.1

    pub rank_passed : f (get_or t i d).val ≡ false → Ranked f t (i + 1) k x
    rank_passed e = rw (keys_past f t i d h e) at r

    pub rank_counted : f (get_or t i d).val ≡ true → (k ≡ 0 → ⊥) → Ranked f t (i + 1) (k - 1) x
    rank_counted e n =
        let s : k ≡ suc (k - 1) = omega arith in
        let q = keys_here f t i d h e in
        (omega (arith, ap length q, r.0), ap (λ (m : ℕ). get_or ((get_or t i d).key ∷ keys_where f (drop (i + 1) t)) m 0) (sym s) ∙ (rw q at r).1)
