-- What a test that says yes tells, and how to make it say yes.
use mathlib.Core.Path.{◌≡◌, refl, sym, subst, ◌∙◌}
use mathlib.Core.Logic.{◌⊎◌, inl, inr}
use mathlib.Core.List.{List, [], ◌∷◌, ◌++◌}
use mathlib.Core.Option.{none, some, some-injective, none-ne-some}
use mathlib.Core.Bool.{Bool, true, false, cond, not, true≢false, false≢true}
use Prim.Native.Nat.{ℕ, suc, ◌+◌, ◌≤◌, ◌<◌}
use native.Mathlib.Omega.{arith}
use native.Mathlib.Nat.{zero-add}
use lib.Dec.{eqb, leb, leb→le, le→leb, eqb→eq, nleb→lt}
use Rattle.rules.specs.Lists.{◌and◌, ◌or◌, all_of, every, any, has, equal}
use Rattle.rules.specs.Table.{Entry, entry, Table, at}
use Rattle.rules.specs.WellFormed.{rising, key_before}
use Rattle.rules.proofs.Counts.{Alike, same, apart, alike, T_true, eqb_same, hit, hit_same, hit_apart, occ}
use Rattle.rules.proofs.Tables.{From, at_below}

-- ---- both, either, not, all

pub and_parts : (a b : Bool) → (a and b) ≡ true → (a ≡ true) × (b ≡ true)
unfolding ◌and◌
and_parts true b h = (refl, h)
and_parts false b h = absurd (false≢true h)

pub and_joins : (a b : Bool) → a ≡ true → b ≡ true → (a and b) ≡ true
unfolding ◌and◌
and_joins a b p q = rw (p, q)

pub or_cases : (a b : Bool) → (a or b) ≡ true → (a ≡ true) ⊎ (b ≡ true)
unfolding ◌or◌
or_cases true b h = inl refl
or_cases false b h = inr h

pub or_left : (a b : Bool) → a ≡ true → (a or b) ≡ true
unfolding ◌or◌
or_left a b p = rw p

pub or_right : (a b : Bool) → b ≡ true → (a or b) ≡ true
unfolding ◌or◌
or_right true b p = refl
or_right false b p = p

-- each of the tests says yes
abbrev pub Yes : List Bool → Type 0
Yes [] = Unit {0}
Yes (c ∷ cs) = (c ≡ true) × Yes cs

pub all_parts : (cs : List Bool) → all_of cs ≡ true → Yes cs
unfolding all_of
all_parts [] h = tt
all_parts (c ∷ cs) h = let p = and_parts _ _ h in (p.0, all_parts cs p.1)

pub all_joins : (cs : List Bool) → Yes cs → all_of cs ≡ true
unfolding all_of
all_joins [] h = refl
all_joins (c ∷ cs) h = and_joins _ _ h.0 (all_joins cs h.1)

pub of_not : (c : Bool) → not c ≡ true → c ≡ false
of_not true h = absurd (false≢true h)
of_not false h = refl

-- a check that did not fail
pub of_no : (c : Bool) → not c ≡ false → c ≡ true
of_no true h = refl
of_no false h = absurd (true≢false h)

pub not_of : (c : Bool) → c ≡ false → not c ≡ true
not_of c h = rw h

-- what holds of both branches, each where it is taken
pub by_cases : {A : Type 0} (P : A → Type 0) (c : Bool) (x y : A) → (c ≡ true → P x) → (c ≡ false → P y) → P (cond c x y)
by_cases P true x y p q = p refl
by_cases P false x y p q = q refl

-- a value that is given under a test: the test says yes, and the value is that one
pub given_if : {A : Type 0} (c : Bool) (x y : A) → cond c (some x) none ≡ some y → (c ≡ true) × (x ≡ y)
given_if true x y h = (refl, cc)
given_if false x y h = let z : false ≡ true = cc in absurd (false≢true z)

-- ---- numbers

pub le_of : (m n : ℕ) → leb m n ≡ true → m ≤ n
le_of m n h = leb→le m n (rw h tt)

pub of_le : (m n : ℕ) → m ≤ n → leb m n ≡ true
of_le m n h = T_true (leb m n) (le→leb m n h)

pub lt_of_no : (m n : ℕ) → leb m n ≡ false → n < m
lt_of_no m n h = nleb→lt m n (rw h tt)

pub eq_of : (m n : ℕ) → eqb m n ≡ true → m ≡ n
eq_of m n h = eqb→eq m n (rw h tt)

pub of_eq : (m n : ℕ) → m ≡ n → eqb m n ≡ true
of_eq m n h = rw h (eqb_same n)

-- ---- lists

module _ {A : Type 0} where
  pub every_parts : (f : A → Bool) (x : A) (l : List A) → every f (x ∷ l) ≡ true → (f x ≡ true) × (every f l ≡ true)
  unfolding every
  every_parts f x l h = and_parts _ _ h

  pub every_join : (f : A → Bool) (x : A) (l : List A) → f x ≡ true → every f l ≡ true → every f (x ∷ l) ≡ true
  unfolding every
  every_join f x l p q = and_joins _ _ p q

  pub every_none : (f : A → Bool) → every f [] ≡ true
  unfolding every
  every_none f = refl

  pub every_append : (f : A → Bool) (l m : List A) → every f l ≡ true → every f m ≡ true → every f (l ++ m) ≡ true
  every_append f [] m p q = q
  every_append f (x ∷ l) m p q = every_join _ _ _ (every_parts _ _ _ p).0 (every_append f l m (every_parts _ _ _ p).1 q)

  -- a test that everything passes
  pub every_all : (f : A → Bool) → ((x : A) → f x ≡ true) → (l : List A) → every f l ≡ true
  every_all f h [] = every_none _
  every_all f h (x ∷ l) = every_join _ _ _ (h x) (every_all f h l)

  -- a weaker test
  pub every_weaken : (f g : A → Bool) → ((x : A) → g x ≡ true → f x ≡ true) → (l : List A) → every g l ≡ true → every f l ≡ true
  every_weaken f g h [] p = every_none _
  every_weaken f g h (x ∷ l) p = every_join _ _ _ (h x (every_parts _ _ _ p).0) (every_weaken f g h l (every_parts _ _ _ p).1)

-- of a list of numbers: by what stands in it
pub every_has : (f : ℕ → Bool) (l : List ℕ) (x : ℕ) → every f l ≡ true → 1 ≤ occ x l → f x ≡ true
unfolding occ
every_has f [] x h o = absurd (omega arith)
every_has f (y ∷ l) x h o = go (alike x y) (every_has f l x (every_parts _ _ _ h).1) (every_parts _ _ _ h).0
  where
    go : Alike x y → (1 ≤ occ x l → f x ≡ true) → f y ≡ true → f x ≡ true
    go (same p q) ih g = rw p g
    go (apart p q) ih g = ih (omega (arith, hit_apart x y p))

pub has_every : (f : ℕ → Bool) (l : List ℕ) → ((x : ℕ) → 1 ≤ occ x l → f x ≡ true) → every f l ≡ true
unfolding occ
has_every f [] h = every_none _
has_every f (y ∷ l) h = every_join _ _ _ (h y (omega (arith, hit_same y))) (has_every f l (λ x o. h x (omega arith)))

-- a number is in a list as often as it is counted
pub has_occ : (x : ℕ) (l : List ℕ) → has x l ≡ leb 1 (occ x l)
unfolding has any occ ◌or◌
has_occ x [] = refl
has_occ x (y ∷ l) = go (alike y x) (has_occ x l)
  where
    go : Alike y x → has x l ≡ leb 1 (occ x l) → has x (y ∷ l) ≡ leb 1 (occ x (y ∷ l))
    go (same p q) ih = let h : hit x y ≡ 1 = rw p (hit_same x) in rw q (sym (of_le 1 (hit x y + occ x l) (omega arith)))
    go (apart p q) ih = rw (q, hit_apart x y (λ e. p (sym e))) (ih ∙ rw zero-add)

pub equal_refl : (l : List ℕ) → equal l l ≡ true
unfolding equal
equal_refl [] = refl
equal_refl (x ∷ l) = and_joins _ _ (eqb_same x) (equal_refl l)

pub equal_true : (l m : List ℕ) → equal l m ≡ true → l ≡ m
unfolding equal
equal_true [] [] h = refl
equal_true [] (y ∷ m) h = absurd (false≢true h)
equal_true (x ∷ l) [] h = absurd (false≢true h)
equal_true (x ∷ l) (y ∷ m) h =
    let p = and_parts _ _ h in
    let e : x ≡ y = eq_of x y p.0 in
    let t : l ≡ m = equal_true l m p.1 in
    cc

-- ---- tables

module _ {A : Type 0} where
  pub every_at : (f : Entry A → Bool) (t : Table A) (k : ℕ) (v : A) → every f t ≡ true → at k t ≡ some v → f (entry k v) ≡ true
  unfolding at
  every_at f [] k v h e = absurd (none-ne-some v e)
  every_at f (d ∷ t) k v h e = go (alike k d.key) (every_at f t k v (every_parts _ _ _ h).1) (every_parts _ _ _ h).0
    where
      go : Alike k d.key → (at k t ≡ some v → f (entry k v) ≡ true) → f d ≡ true → f (entry k v) ≡ true
      go (same p q) ih g = subst (λ u. f (entry k u) ≡ true) (some-injective d.val v (rw q at e)) (rw p g)
      go (apart p q) ih g = ih (rw q at e)

  pub at_every : (f : Entry A → Bool) (n : ℕ) (t : Table A) → From n t → ((k : ℕ) (v : A) → at k t ≡ some v → f (entry k v) ≡ true) → every f t ≡ true
  unfolding at From
  at_every f n [] r h = every_none _
  at_every f n (d ∷ t) r h = every_join _ _ _ (h d.key d.val (rw eqb_same)) (at_every f (suc d.key) t r.1 (λ k v e. h k v (skip k v e (alike k d.key))))
    where
      skip : (k : ℕ) (v : A) → at k t ≡ some v → Alike k d.key → at k (d ∷ t) ≡ some v
      skip k v e (same p q) = absurd (none-ne-some v (sym (at_below k (suc d.key) t r.1 (omega arith)) ∙ e))
      skip k v e (apart p q) = rw q e

  -- neighbours in order: strictly rising keys
  pub rising_from : (d : Entry A) (t : Table A) → rising key_before (d ∷ t) ≡ true → From (suc d.key) t
  unfolding rising From
  rising_from d [] h = tt
  rising_from d (e ∷ t) h = (le_of _ _ (and_parts _ _ h).0, rising_from e t (and_parts _ _ h).1)

  pub from_rising : (n : ℕ) (t : Table A) → From n t → rising key_before t ≡ true
  unfolding rising From
  from_rising n [] r = refl
  from_rising n (d ∷ []) r = refl
  from_rising n (d ∷ e ∷ t) r = and_joins _ _ (of_le _ _ r.1.0) (from_rising (suc d.key) (e ∷ t) r.1)

  pub rising_table : (t : Table A) → rising key_before t ≡ true → From 0 t
  unfolding From
  rising_table [] h = tt
  rising_table (d ∷ t) h = (omega arith, rising_from d t h)
