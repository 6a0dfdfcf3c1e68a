-- A word and a name, read byte by byte.
use Prim.Native.Nat.{ℕ, suc, ◌+◌, ◌≤◌, ◌<◌}
use mathlib.Core.Path.{◌≡◌, refl, ap, sym, ◌∙◌}
use mathlib.Core.Bool.{Bool, true, false, ◌&&◌}
use mathlib.Core.List.{List, [], ◌∷◌}
use native.Mathlib.Omega.{arith}
use native.Mathlib.Numerals.{add-one}
use borrow.Author.Tests.{eq-eqb, ne_eqb}
use lib.Dec.{eqb}
use lib.ListN.{length, get_or, drop}
use lib.Seq.{drop-cons, drop-length}
use Rattle.step_names.specs.Names.{underscored, same_name}

-- a name of another length
pub other_length : (w l : List ℕ) → (length w ≡ length l → ⊥) → false ≡ same_name w l
unfolding same_name
other_length [] [] h = absurd (h refl)
other_length [] (b ∷ l) h = refl
other_length (a ∷ w) [] h = refl
other_length (a ∷ w) (b ∷ l) h = go (eqb (underscored a) b) (other_length w l (λ e. h (ap suc e)))
  where
    go : (c : Bool) → false ≡ same_name w l → false ≡ c && same_name w l
    go true e = e
    go false e = refl

-- the first i bytes are the same
module _ (w l : List ℕ) (i : ℕ) (same : length w ≡ length l) (so_far : same_name w l ≡ same_name (drop i w) (drop i l)) where
  module _ (r : ℕ) (h : i < length w) (e : r ≡ underscored (get_or w i 0)) where
    read : same_name w l ≡ eqb r (get_or l i 0) && same_name (drop (i + 1) w) (drop (i + 1) l)
    unfolding same_name
    read = let g : i < length l = omega arith in so_far ∙ rw (drop-cons w i 0 h, drop-cons l i 0 g, e, add-one i)

    pub byte_differs : (r ≡ get_or l i 0 → ⊥) → false ≡ same_name w l
    byte_differs d = sym (read ∙ rw (ne_eqb r (get_or l i 0) d))

    pub byte_same : r ≡ get_or l i 0 → same_name w l ≡ same_name (drop (i + 1) w) (drop (i + 1) l)
    byte_same d = read ∙ rw (eq-eqb r (get_or l i 0) d)

  pub all_same : i ≤ length w → length w ≤ i → true ≡ same_name w l
  unfolding same_name
  all_same h g =
      let z : i ≡ length w = omega arith in
      sym (so_far ∙ rw (z, drop-length w, same, drop-length l))
