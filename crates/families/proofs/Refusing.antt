-- Each fault of an admission, as the code asks for it.
use Prim.Native.Nat.{ℕ, ◌+◌, ◌*◌, ◌/◌, ◌≤◌, ◌<◌}
use mathlib.Core.Path.{◌≡◌, refl, ap, sym, ◌∙◌}
use mathlib.Core.List.{[], ◌∷◌}
use mathlib.Core.Option.{none}
use mathlib.Core.Bool.{Bool, true, false, not, ◌&&◌, ◌||◌, false≢true}
use native.Mathlib.Omega.{arith}
use borrow.Author.Tests.{eq-eqb, ne_eqb}
use lib.Dec.{eqb}
use lib.ListN.{length, get_or, drop}
use Rattle.types.specs.Numbers.{Shard}
use Rattle.types.specs.Shards.{left_of, right_of}
use Rattle.types.specs.declared.Answer.TheVariants.{OutOfRange, NoBoundary, FamilyTaken}
use Rattle.rules.specs.Lists.{◌and◌, ◌or◌, every, any, has}
use Rattle.rules.specs.Table.{Table, at, stands, keys_where, keys_of}
use Rattle.rules.specs.Board.{Kind, Reshape, Board}
use Rattle.rules.specs.WellFormed.{is_target, well_formed}
use Rattle.rules.specs.Moves.{overlaps, committees_fit, bounds_stand}
use Rattle.rules.specs.Turns.{Turn, refused, checked}
use Rattle.rules.specs.Reshapes.{family_free, admission_faults}
use Rattle.rules.proofs.Counts.{Alike, same, apart, alike}
use Rattle.rules.proofs.Tests.{of_not}
use Rattle.tables.proofs.Bools.{and_is, and_end}
use Rattle.board.specs.Held.{no_reshape}
use Rattle.pool.proofs.Pools.{keys_none, keys_here}
use Rattle.reshapes.specs.Changes.{kind_of}
use Rattle.families.specs.Faults.{Grants}

-- ---- families

module _ (t u : ℕ) where
  is_same : t ≡ u → overlaps t u ≡ true
  unfolding overlaps any has ◌or◌
  is_same e = rw (eq-eqb t u e)

  -- nine tests, by the first shard that the families share
  module _ (n : t ≡ u → ⊥) where
    is_left : 2 * t ≡ u → overlaps t u ≡ true
    unfolding overlaps any has ◌or◌
    is_left e = rw (ne_eqb t u n, eq-eqb (2 * t) u e)

    is_right : 2 * t + 1 ≡ u → overlaps t u ≡ true
    unfolding overlaps any has ◌or◌
    is_right e = rw (ne_eqb t u n, ne_eqb (2 * t) u (λ q. omega arith), eq-eqb (2 * t + 1) u e)

    module _ (l : 2 * t ≡ u → ⊥) (r : 2 * t + 1 ≡ u → ⊥) where
      has_left : t ≡ 2 * u → overlaps t u ≡ true
      unfolding overlaps any has ◌or◌
      has_left e = rw (ne_eqb t u n, ne_eqb (2 * t) u l, ne_eqb (2 * t + 1) u r, eq-eqb t (2 * u) e)

      module _ (m : t ≡ 2 * u → ⊥) where
        beside : (c : Bool) → eqb t (2 * u + 1) ≡ c → c ≡ overlaps t u
        unfolding overlaps any has ◌or◌
        beside c e =
            rw (
              ne_eqb t u n,
              ne_eqb (2 * t) u l,
              ne_eqb (2 * t + 1) u r,
              ne_eqb t (2 * u) m,
              ne_eqb (2 * t) (2 * u) (λ q. n (omega arith)),
              ne_eqb (2 * t + 1) (2 * u) (λ q. omega arith),
              e,
              ne_eqb (2 * t) (2 * u + 1) (λ q. omega arith),
              ne_eqb (2 * t + 1) (2 * u + 1) (λ q. n (omega arith)),
            ) (go c)
          where
            go : (d : Bool) → d ≡ ((d or false) or false)
            go true = refl
            go false = refl

  pub overlap_is : ((eqb t u || eqb (u / 2) t) || eqb (t / 2) u) ≡ overlaps t u
  overlap_is = first (alike t u)
    where
      last : (t ≡ u → ⊥) → (u / 2 ≡ t → ⊥) → Alike (t / 2) u → Alike t (2 * u) → eqb (t / 2) u ≡ overlaps t u
      last n m (same p q) (same v w) = q ∙ sym (has_left n (λ e. m (omega arith)) (λ e. m (omega arith)) v)
      last n m (same p q) (apart v w) = q ∙ beside n (λ e. m (omega arith)) (λ e. m (omega arith)) v true (eq-eqb t (2 * u + 1) (omega arith))
      last n m (apart p q) a = q ∙ beside n (λ e. m (omega arith)) (λ e. m (omega arith)) (λ e. p (omega arith)) false (ne_eqb t (2 * u + 1) (λ e. p (omega arith)))

      next : (t ≡ u → ⊥) → Alike (u / 2) t → Alike (2 * t) u → (eqb (u / 2) t || eqb (t / 2) u) ≡ overlaps t u
      next n (same p q) (same v w) = rw q (sym (is_left n v))
      next n (same p q) (apart v w) = rw q (sym (is_right n (omega arith)))
      next n (apart p q) a = rw q (last n p (alike (t / 2) u) (alike t (2 * u)))

      first : Alike t u → ((eqb t u || eqb (u / 2) t) || eqb (t / 2) u) ≡ overlaps t u
      first (same p q) = rw q (sym (is_same p))
      first (apart p q) = rw q (next p (alike (u / 2) t) (alike (2 * t) u))

-- ---- the family, as a loop goes through the reshapes

-- the tests that are left at row i
abbrev pub taken_from : Shard → Table Reshape → ℕ → Bool
taken_from t rows i = any (overlaps t) (keys_of (drop i rows))

module _ (t : Shard) (b : Board) (i : ℕ) (e : taken_from t b.reshapes i ≡ taken_from t b.reshapes 0) where
  pub family_ended : length b.reshapes ≤ i → true ≡ family_free t b
  unfolding family_free keys_of any
  family_ended h = ap not (sym (ap (any (overlaps t)) (keys_none (λ _. true) b.reshapes i h)) ∙ e)

  module _ (h : i < length b.reshapes) (u : Shard) (k : u ≡ (get_or b.reshapes i no_reshape).key) (c : Bool) (o : c ≡ overlaps t u) where
    next_tested : (c or taken_from t b.reshapes (i + 1)) ≡ taken_from t b.reshapes 0
    unfolding keys_of any
    next_tested = rw (o, k) (sym (ap (any (overlaps t)) (keys_here (λ _. true) b.reshapes i no_reshape h refl)) ∙ e)

    pub family_passed : c ≡ false → taken_from t b.reshapes (i + 1) ≡ taken_from t b.reshapes 0
    unfolding ◌or◌
    family_passed n = rw n at next_tested

    pub family_found : c ≡ true → false ≡ family_free t b
    unfolding family_free ◌or◌
    family_found y = let z : true ≡ taken_from t b.reshapes 0 = rw y at next_tested in ap not z

-- a target whose family is free has no reshape
free_none : (f : ℕ → Bool) (k : ℕ) → f k ≡ true → (rows : Table Reshape) → any f (keys_of rows) ≡ false → at k rows ≡ none
unfolding any keys_of keys_where at ◌or◌
free_none f k y [] n = refl
free_none f k y (e ∷ rows) n = go (alike k e.key) (f e.key) refl (free_none f k y rows)
  where
    go : Alike k e.key → (c : Bool) → f e.key ≡ c → (any f (keys_of rows) ≡ false → at k rows ≡ none) → at k (e ∷ rows) ≡ none
    go (same p q) c u ih = let z : f e.key ≡ true = rw (← p) y in absurd (false≢true (sym (rw z at n)))
    go (apart p q) true u ih = absurd (false≢true (sym (rw u at n)))
    go (apart p q) false u ih = rw q (ih (rw u at n))

-- ---- committees and boundaries

module _ (t : Shard) (b : Board) (m : Bool) where
  module _ (p l r : Bool) (parent : p ≡ stands t b.committees) (left : l ≡ stands (left_of t) b.committees) (right : r ≡ stands (right_of t) b.committees) where
    pub merge_fits : m ≡ true → ((l && r) && not p) ≡ committees_fit (kind_of m) t b
    unfolding committees_fit every ◌and◌
    merge_fits y = rw (y, ← parent, ← left, ← right) (go l r p)
      where
        go : (x y z : Bool) → ((x && y) && not z) ≡ ((x and y and true) and (not z and true))
        go true true true = refl
        go true true false = refl
        go true false z = refl
        go false y z = refl

    pub split_fits_lem : m ≡ false → ((p && not l) && not r) ≡ committees_fit (kind_of m) t b
    unfolding committees_fit every ◌and◌
    split_fits_lem n = rw (n, ← parent, ← left, ← right) (go p l r)
      where
        go : (x y z : Bool) → ((x && not y) && not z) ≡ ((x and true) and (not y and not z and true))
        go true true z = refl
        go true false true = refl
        go true false false = refl
        go false y z = refl

  pub merge_bounds : m ≡ true → (l r : Bool) → l ≡ stands (left_of t) b.bounds → r ≡ stands (right_of t) b.bounds → (l && r) ≡ bounds_stand (kind_of m) t b
  unfolding bounds_stand every
  merge_bounds y l r left right = and_is l r ∙ rw (y, ← left, ← right, and_end r)

  pub split_bounds : m ≡ false → (p : Bool) → p ≡ stands t b.bounds → p ≡ bounds_stand (kind_of m) t b
  unfolding bounds_stand every
  split_bounds n p parent = rw (n, ← parent, and_end p)

-- ---- the first fault decides

module _ (k : Kind) (t : Shard) (b : Board) (ok : well_formed b ≡ true) where
  pub no_target : is_target t ≡ false → (turn : Turn) → checked (admission_faults k t b) turn ≡ refused OutOfRange
  unfolding admission_faults checked
  no_target n turn = rw (ok, n)

  module _ (y : is_target t ≡ true) where
    pub family_taken : family_free t b ≡ false → (turn : Turn) → checked (admission_faults k t b) turn ≡ refused FamilyTaken
    unfolding admission_faults checked ◌and◌
    family_taken n turn = rw (ok, y, n)

    module _ (f : family_free t b ≡ true) where
      pub committees_unfit : committees_fit k t b ≡ false → (turn : Turn) → checked (admission_faults k t b) turn ≡ refused FamilyTaken
      unfolding admission_faults checked ◌and◌
      committees_unfit n turn = rw (ok, y, f, n)

      module _ (c : committees_fit k t b ≡ true) where
        pub no_bound : bounds_stand k t b ≡ false → (turn : Turn) → checked (admission_faults k t b) turn ≡ refused NoBoundary
        unfolding admission_faults checked ◌and◌
        no_bound n turn = rw (ok, y, f, c, n)

        pub granted : bounds_stand k t b ≡ true → Grants k t b
        unfolding admission_faults checked ◌and◌ family_free
        granted s = record {
          free = free_none (overlaps t) t (is_same t t refl) b.reshapes (of_not _ f);
          passes = λ turn. rw (ok, y, f, c, s);
        }
