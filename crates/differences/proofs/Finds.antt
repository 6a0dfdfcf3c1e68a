-- What the walk finds is the first difference, of rows whose keys rise.
use Prim.Native.Nat.{ℕ, zero, suc, ◌+◌, ◌<◌}
use mathlib.Core.Path.{◌≡◌, refl, ap, sym}
use mathlib.Core.Logic.{◌⊎◌, inl, inr}
use mathlib.Core.Bool.{Bool, true, false, ◌&&◌, ◌||◌, cond, not}
use mathlib.Core.List.{List, [], ◌∷◌, ◌++◌}
use native.Mathlib.Omega.{arith}
use borrow.Author.Tests.{ltb-true, ltb-false, eqb-true, lt-ltb, le-ltb, eq-eqb, ne_eqb}
use lib.Dec.{eqb, ltb}
use Rattle.rules.specs.Lists.{◌and◌, ◌or◌, every, any, equal}
use Rattle.rules.specs.WellFormed.{rising}
use Rattle.rules.proofs.Tests.{and_parts, and_joins, every_parts, every_join, every_none, equal_true}
use Rattle.std.specs.Prelude.{Option, Some, None}
use Rattle.tables.specs.Rows.{Row}
use Rattle.word_tests.specs.Tests.{at, all_pass, any_pass, rises}
use Rattle.differences.specs.declared.Difference.{Difference}
use Rattle.differences.specs.declared.Difference.TheVariants.{Gone, New, Changed}
use Rattle.differences.specs.Differ.{from, differ}
use Rattle.differences.specs.Found.{same_key, Alone, Other, Found}

module _ (pairs : Bool) where
  -- ---- the order of rows

  Below : List ℕ → List ℕ → Type 0
  Below r q = (at r 0 < at q 0) ⊎ ((pairs ≡ true) × (at r 0 ≡ at q 0) × (at r 1 < at q 1))

  below_of : (r q : List ℕ) → rises pairs r q ≡ true → Below r q
  unfolding Below all_pass any_pass
  below_of r q h = go (ltb (at r 0) (at q 0)) pairs (eqb (at r 0) (at q 0)) (ltb (at r 1) (at q 1)) refl refl refl refl h
    where
      go : (x p y z : Bool) → ltb (at r 0) (at q 0) ≡ x → pairs ≡ p → eqb (at r 0) (at q 0) ≡ y → ltb (at r 1) (at q 1) ≡ z → (x || (p && y && z)) ≡ true → Below r q
      go true p y z a b c d h = inl (ltb-true (at r 0) (at q 0) a)
      go false true true true a b c d h = inr (b, eqb-true (at r 0) (at q 0) c, ltb-true (at r 1) (at q 1) d)
      go false false y z a b c d h = absurd (let e : ◌≡◌ {A = ℕ} 0 1 = cc in omega arith)
      go false true false z a b c d h = absurd (let e : ◌≡◌ {A = ℕ} 0 1 = cc in omega arith)
      go false true true false a b c d h = absurd (let e : ◌≡◌ {A = ℕ} 0 1 = cc in omega arith)

  of_below : (r q : List ℕ) → Below r q → rises pairs r q ≡ true
  unfolding Below all_pass any_pass
  of_below r q (inl a) = rw (lt-ltb (at r 0) (at q 0) a)
  of_below r q (inr (b, c, d)) = rw (le-ltb (at r 0) (at q 0) (omega arith), b, eq-eqb (at r 0) (at q 0) c, lt-ltb (at r 1) (at q 1) d)

  below_trans : (r q s : List ℕ) → Below r q → Below q s → Below r s
  unfolding Below
  below_trans r q s (inl a) (inl b) = inl (omega arith)
  below_trans r q s (inl a) (inr (b, c, d)) = inl (omega arith)
  below_trans r q s (inr (b, c, d)) (inl a) = inl (omega arith)
  below_trans r q s (inr (b, c, d)) (inr (e, f, g)) = inr (b, omega arith, omega arith)

  below_apart : (r q : List ℕ) → Below r q → same_key pairs r q ≡ false
  unfolding Below same_key ◌and◌ ◌or◌
  below_apart r q (inl a) = rw (ne_eqb (at r 0) (at q 0) (λ e. omega arith))
  below_apart r q (inr (b, c, d)) = rw (eq-eqb (at r 0) (at q 0) c, b, ne_eqb (at r 1) (at q 1) (λ e. omega arith))

  above_apart : (r q : List ℕ) → Below r q → same_key pairs q r ≡ false
  unfolding Below same_key ◌and◌ ◌or◌
  above_apart r q (inl a) = rw (ne_eqb (at q 0) (at r 0) (λ e. omega arith))
  above_apart r q (inr (b, c, d)) = rw (eq-eqb (at q 0) (at r 0) (sym c), b, ne_eqb (at q 1) (at r 1) (λ e. omega arith))

  not_below : (r q : List ℕ) → rises pairs r q ≡ false → Below r q → ⊥
  not_below r q h b = let s = of_below r q b in let e : ◌≡◌ {A = ℕ} 0 1 = cc in omega arith

  -- where neither is below the other, both have one key
  one_key : (r q : List ℕ) → rises pairs r q ≡ false → rises pairs q r ≡ false → same_key pairs r q ≡ true
  unfolding Below same_key ◌and◌ ◌or◌
  one_key r q h g =
      let e : at r 0 ≡ at q 0 = neither (at r 0) (at q 0) (λ a. not_below r q h (inl a)) (λ a. not_below q r g (inl a)) in
      rw (eq-eqb (at r 0) (at q 0) e) (go pairs refl e)
    where
      neither : (m n : ℕ) → (m < n → ⊥) → (n < m → ⊥) → m ≡ n
      neither m n a b = by (ltb m n) refl (ltb n m) refl
        where
          by : (x : Bool) → ltb m n ≡ x → (y : Bool) → ltb n m ≡ y → m ≡ n
          by true u y v = absurd (a (ltb-true m n u))
          by false u true v = absurd (b (ltb-true n m v))
          by false u false v = omega (arith, ltb-false m n u, ltb-false n m v)

      go : (p : Bool) → pairs ≡ p → at r 0 ≡ at q 0 → (not p or eqb (at r 1) (at q 1)) ≡ true
      go false u e = refl
      go true u e = eq-eqb (at r 1) (at q 1) (neither (at r 1) (at q 1) (λ a. not_below r q h (inr (u, e, a))) (λ a. not_below q r g (inr (u, sym e, a))))

  -- ---- rising rows

  above : (r y : List ℕ) (l : List (List ℕ)) → rises pairs r y ≡ true → rising (rises pairs) (y ∷ l) ≡ true → every (rises pairs r) (y ∷ l) ≡ true
  unfolding rising
  above r y [] h u = every_join _ y [] h (every_none _)
  above r y (x ∷ l) h u =
      let p = and_parts _ _ u in
      every_join _ y (x ∷ l) h (above r x l (of_below r x (below_trans r y x (below_of r y h) (below_of y x p.0))) p.1)

  rest_above : (r : List ℕ) (l : List (List ℕ)) → rising (rises pairs) (r ∷ l) ≡ true → every (rises pairs r) l ≡ true
  unfolding rising
  rest_above r [] u = every_none _
  rest_above r (x ∷ l) u = let p = and_parts _ _ u in above r x l p.0 p.1

  rest_rises : (r : List ℕ) (l : List (List ℕ)) → rising (rises pairs) (r ∷ l) ≡ true → rising (rises pairs) l ≡ true
  unfolding rising
  rest_rises r [] u = refl
  rest_rises r (x ∷ l) u = (and_parts _ _ u).1

  none_keyed : (r : List ℕ) (l : List (List ℕ)) → every (rises pairs r) l ≡ true → any (same_key pairs r) l ≡ false
  unfolding any ◌or◌
  none_keyed r [] u = refl
  none_keyed r (x ∷ l) u = let p = every_parts _ x l u in rw (below_apart r x (below_of r x p.0)) (none_keyed r l p.1)

  middle : (f : List ℕ → Bool) (l : List (List ℕ)) (x : List ℕ) (m : List (List ℕ)) → every f (l ++ x ∷ m) ≡ true → f x ≡ true
  middle f [] x m u = (every_parts f x m u).0
  middle f (y ∷ l) x m u = middle f l x m (every_parts f y (l ++ x ∷ m) u).1

  -- ---- the first rows are the same: what is found later is found

  later_alone : (i j k l : ℕ) (r : List ℕ) (rs qs : List (List ℕ)) → every (rises pairs r) rs ≡ true → Alone pairs (i + 1) (j + 1) rs qs k l → Alone pairs i j (r ∷ rs) (r ∷ qs) k l
  unfolding any ◌or◌
  later_alone i j k l r rs qs u f =
      let b = below_of r f.row (middle (rises pairs r) f.both f.row f.after (rw f.first at u)) in
      record {
        both = r ∷ f.both;
        row = f.row;
        after = f.after;
        others = f.others;
        first = ap (λ (x : List (List ℕ)). r ∷ x) f.first;
        second = ap (λ (x : List (List ℕ)). r ∷ x) f.second;
        place = omega (arith, f.place);
        there = omega (arith, f.there);
        alone = rw (above_apart r f.row b) f.alone;
      }

  later_other : (i j k l : ℕ) (r : List ℕ) (rs qs : List (List ℕ)) → Other pairs (i + 1) (j + 1) rs qs k l → Other pairs i j (r ∷ rs) (r ∷ qs) k l
  later_other i j k l r rs qs f = record {
    both = r ∷ f.both;
    row = f.row;
    after = f.after;
    other = f.other;
    others = f.others;
    first = ap (λ (x : List (List ℕ)). r ∷ x) f.first;
    second = ap (λ (x : List (List ℕ)). r ∷ x) f.second;
    place = omega (arith, f.place);
    there = omega (arith, f.there);
    key = f.key;
    words = f.words;
  }

  later : (i j : ℕ) (r : List ℕ) (rs qs : List (List ℕ)) (d : Option Difference) → every (rises pairs r) rs ≡ true → every (rises pairs r) qs ≡ true
      → Found pairs (i + 1) (j + 1) rs qs d → Found pairs i j (r ∷ rs) (r ∷ qs) d
  later i j r rs qs (Some (Gone k l)) u v f = later_alone i j k l r rs qs u f
  later i j r rs qs (Some (New k l)) u v f = later_alone j i l k r qs rs v f
  later i j r rs qs (Some (Changed k l)) u v f = later_other i j k l r rs qs f
  later i j r rs qs None u v f = ap (λ (x : List (List ℕ)). r ∷ x) f

  first_alone : (i j : ℕ) (r : List ℕ) (rs qs : List (List ℕ)) → any (same_key pairs r) qs ≡ false → Alone pairs i j (r ∷ rs) qs i j
  first_alone i j r rs qs u = record { both = []; row = r; after = rs; others = qs; first = refl; second = refl; place = omega arith; there = omega arith; alone = u }

  -- THE LAW: what the definition finds is the first difference
  pub finds_first : (i j : ℕ) (rs qs : List (List ℕ)) → rising (rises pairs) rs ≡ true → rising (rises pairs) qs ≡ true → Found pairs i j rs qs (differ pairs i j rs qs)
  unfolding differ
  finds_first i j [] [] u v = refl
  finds_first i j [] (q ∷ qs) u v = first_alone j i q qs [] (none_keyed q [] (every_none _))
  finds_first i j (r ∷ rs) [] u v = first_alone i j r rs [] (none_keyed r [] (every_none _))
  finds_first i j (r ∷ rs) (q ∷ qs) u v =
      go (rises pairs r q) refl (rises pairs q r) refl (equal r q) refl (finds_first (i + 1) (j + 1) rs qs (rest_rises r rs u) (rest_rises q qs v))
    where
      go : (x : Bool) → rises pairs r q ≡ x → (y : Bool) → rises pairs q r ≡ y → (z : Bool) → equal r q ≡ z
          → Found pairs (i + 1) (j + 1) rs qs (differ pairs (i + 1) (j + 1) rs qs)
          → Found pairs i j (r ∷ rs) (q ∷ qs) (cond x (Some (Gone i j)) (cond y (Some (New i j)) (cond z (differ pairs (i + 1) (j + 1) rs qs) (Some (Changed i j)))))
      go true a y b z c f = first_alone i j r rs (q ∷ qs) (none_keyed r (q ∷ qs) (above r q qs a v))
      go false a true b z c f = first_alone j i q qs (r ∷ rs) (none_keyed q (r ∷ rs) (above q r rs b u))
      go false a false b false c f = record {
        both = [];
        row = r;
        after = rs;
        other = q;
        others = qs;
        first = refl;
        second = refl;
        place = omega arith;
        there = omega arith;
        key = one_key r q a b;
        words = c;
      }
      go false a false b true c f =
          let e = equal_true r q c in
          rw (← e) (later i j r rs qs (differ pairs (i + 1) (j + 1) rs qs) (rest_above r rs u) (rw (← e) at (rest_above q qs v)) f)

  -- ---- the same of two tables, from any rows on

  module _ {w : ℕ} where
    abbrev pub RowsRise : List (Row w) → Type 0
    RowsRise rs = rising (λ x y. rises pairs x.words y.words) rs ≡ true

    from_rises : (i : ℕ) (rs : List (Row w)) → RowsRise rs → rising (rises pairs) (from i rs) ≡ true
    unfolding from rising
    from_rises zero [] u = refl
    from_rises zero (x ∷ []) u = refl
    from_rises zero (x ∷ y ∷ rs) u = let p = and_parts _ _ u in and_joins _ _ p.0 (from_rises zero (y ∷ rs) p.1)
    from_rises (suc i) [] u = refl
    from_rises (suc i) (x ∷ []) u = from_rises i [] refl
    from_rises (suc i) (x ∷ y ∷ rs) u = from_rises i (y ∷ rs) (and_parts _ _ u).1

    pub tables_find : (i j : ℕ) (rs qs : List (Row w)) → RowsRise rs → RowsRise qs → Found pairs i j (from i rs) (from j qs) (differ pairs i j (from i rs) (from j qs))
    tables_find i j rs qs u v = finds_first i j (from i rs) (from j qs) (from_rises i rs u) (from_rises j qs v)
