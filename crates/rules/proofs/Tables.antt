-- Laws of tables: what stands at a key after each operation, and what that does to a number told of it.
use mathlib.Core.Path.{◌≡◌, refl, ap, sym, ◌∙◌}
use mathlib.Core.Logic.{◌≢◌}
use mathlib.Core.List.{[], ◌∷◌}
use mathlib.Core.Option.{Option, none, some, map}
use mathlib.Core.Bool.{Bool, true, false, cond}
use Prim.Native.Nat.{ℕ, suc, ◌+◌, ◌*◌, ◌≤◌, ◌<◌}
use native.Mathlib.Omega.{arith}
use lib.Dec.{eqb, ltb, ltb→lt, nltb→le}
use Rattle.rules.specs.Lists.{bit_of}
use Rattle.rules.specs.Table.{Table, at, put, remove, each, update, keys_where}
use Rattle.rules.proofs.Counts.{Alike, same, apart, alike, eqb_same, eqb_apart, hit, hit_same, hit_apart, occ}

module _ {A : Type 0} where
  pub cond_const : (c : Bool) (x : A) → cond c x x ≡ x
  cond_const true x = refl
  cond_const false x = refl

  pub cond_again : (c : Bool) (x y z : A) → cond c x (cond c y z) ≡ cond c x z
  cond_again true x y z = refl
  cond_again false x y z = refl

  pub cond_swap : {k a b : ℕ} → Alike k a → Alike k b → a ≢ b → (x y z : A) → cond (eqb k a) x (cond (eqb k b) y z) ≡ cond (eqb k b) y (cond (eqb k a) x z)
  cond_swap (same p q) (same u v) n x y z = absurd (n (sym p ∙ u))
  cond_swap (same p q) (apart u v) n x y z = rw (q, v)
  cond_swap (apart p q) c n x y z = rw q

module _ {A : Type 0} where
  -- strictly rising keys, none below n
  unfoldable pub From : ℕ → Table A → Type 0
  From n [] = Unit {0}
  From n (e ∷ t) = (n ≤ e.key) × From (suc e.key) t

  pub at_each : (f : ℕ → A → A) (k : ℕ) (t : Table A) → at k (each f t) ≡ map (f k) (at k t)
  unfolding at each
  at_each f k [] = refl
  at_each f k (e ∷ t) = go (alike k e.key) (at_each f k t)
    where
      go : Alike k e.key → at k (each f t) ≡ map (f k) (at k t) → at k (each f (e ∷ t)) ≡ map (f k) (at k (e ∷ t))
      go (same p q) h = rw (q, p)
      go (apart p q) h = rw q h

  pub at_put : (k j : ℕ) (v : A) (t : Table A) → at k (put j v t) ≡ cond (eqb k j) (some v) (at k t)
  unfolding at put
  at_put k j v [] = refl
  at_put k j v (e ∷ t) = go (ltb j e.key) (alike j e.key) (at_put k j v t) refl
    where
      go : (c : Bool) → Alike j e.key → at k (put j v t) ≡ cond (eqb k j) (some v) (at k t) → ltb j e.key ≡ c → at k (put j v (e ∷ t)) ≡ cond (eqb k j) (some v) (at k (e ∷ t))
      go true a h u = rw u
      go false (same p q) h u = rw (u, q, p) (sym (cond_again (eqb k e.key) _ _ _))
      go false (apart p q) h u = rw (u, q, h) (cond_swap (alike k e.key) (alike k j) (λ x. p (sym x)) _ _ _)

  pub at_remove : (k j : ℕ) (t : Table A) → at k (remove j t) ≡ cond (eqb k j) none (at k t)
  unfolding at remove
  at_remove k j [] = sym (cond_const (eqb k j) none)
  at_remove k j (e ∷ t) = go (alike j e.key) (at_remove k j t)
    where
      go : Alike j e.key → at k (remove j t) ≡ cond (eqb k j) none (at k t) → at k (remove j (e ∷ t)) ≡ cond (eqb k j) none (at k (e ∷ t))
      go (same p q) h = rw (q, h, p) (sym (cond_again (eqb k e.key) _ _ _))
      go (apart p q) h = rw (q, h) (cond_swap (alike k e.key) (alike k j) (λ x. p (sym x)) _ _ _)

  pub From-weaken : (m n : ℕ) (t : Table A) → m ≤ n → From n t → From m t
  unfolding From
  From-weaken m n [] h r = tt
  From-weaken m n (e ∷ t) h r = (omega arith, r.1)

  pub From-each : (f : ℕ → A → A) (n : ℕ) (t : Table A) → From n t → From n (each f t)
  unfolding From each
  From-each f n [] r = tt
  From-each f n (e ∷ t) r = (r.0, From-each f (suc e.key) t r.1)

  pub From-remove : (k n : ℕ) (t : Table A) → From n t → From n (remove k t)
  unfolding From remove
  From-remove k n [] r = tt
  From-remove k n (e ∷ t) r = go (eqb k e.key) refl (From-remove k (suc e.key) t r.1)
    where
      go : (c : Bool) → eqb k e.key ≡ c → From (suc e.key) (remove k t) → From n (remove k (e ∷ t))
      go true u h = rw u (From-weaken n (suc e.key) (remove k t) (omega arith) h)
      go false u h = rw u (r.0, h)

  pub From-put : (k : ℕ) (v : A) (n : ℕ) (t : Table A) → n ≤ k → From n t → From n (put k v t)
  unfolding From put
  From-put k v n [] h r = (h, tt)
  From-put k v n (e ∷ t) h r = go (ltb k e.key) (alike k e.key) refl (From-put k v (suc e.key) t)
    where
      go : (c : Bool) → Alike k e.key → ltb k e.key ≡ c → (suc e.key ≤ k → From (suc e.key) t → From (suc e.key) (put k v t)) → From n (put k v (e ∷ t))
      go true a u ih = let l : k < e.key = ltb→lt k e.key (rw u tt) in rw u (h, (l, r.1))
      go false (same p q) u ih = rw (u, q) (h, rw p r.1)
      go false (apart p q) u ih = let l : e.key ≤ k = nltb→le k e.key (rw u tt) in rw (u, q) (r.0, ih (omega arith) r.1)

  pub at_below : (k n : ℕ) (t : Table A) → From n t → k < n → at k t ≡ none
  unfolding From at
  at_below k n [] r h = refl
  at_below k n (e ∷ t) r h = rw (eqb_apart k e.key (omega arith)) (at_below k (suc e.key) t r.1 (omega arith))

-- a number for what stands at a key, 0 where nothing stands
module _ {A : Type 0} where
  unfoldable pub tally : (A → ℕ) → Option A → ℕ
  tally g none = 0
  tally g (some a) = g a

  pub From-update : (x : ℕ) (f : A → A) (n : ℕ) (t : Table A) → From n t → From n (update x f t)
  unfolding update
  From-update x f n t r = From-each (λ k v. cond (eqb k x) (f v) v) n t r

  -- How the number at key y changes when the value at key x does. Each is linear in the products `hit y x * ..`, so `omega` takes it as it is.
  pub tally_update : (g : A → ℕ) (y x : ℕ) (f : A → A) (t : Table A)
      → tally g (at y (update x f t)) + hit y x * tally g (at x t) ≡ tally g (at y t) + hit y x * tally (λ v. g (f v)) (at x t)
  unfolding update tally
  tally_update g y x f t = rw (at_each (λ k v. cond (eqb k x) (f v) v) y t) (go (alike y x))
    where
      some_one : (o : Option A) → tally g (map f o) + 1 * tally g o ≡ tally g o + 1 * tally (λ v. g (f v)) o
      some_one none = omega arith
      some_one (some v) = omega arith

      some_none : (o : Option A) → tally g (map (λ v. v) o) ≡ tally g o
      some_none none = refl
      some_none (some v) = refl

      go : Alike y x → tally g (map (λ v. cond (eqb y x) (f v) v) (at y t)) + hit y x * tally g (at x t) ≡ tally g (at y t) + hit y x * tally (λ v. g (f v)) (at x t)
      go (same p q) = simp (p, eqb_same, hit_same) (some_one (at x t))
      go (apart p q) = simp (q, hit_apart y x p) (let h = some_none (at y t) in omega arith)

  pub tally_put : (g : A → ℕ) (y x : ℕ) (v : A) (t : Table A) → tally g (at y (put x v t)) + hit y x * tally g (at x t) ≡ tally g (at y t) + hit y x * g v
  unfolding tally
  tally_put g y x v t = rw (at_put y x v t) (go (alike y x))
    where
      go : Alike y x → tally g (cond (eqb y x) (some v) (at y t)) + hit y x * tally g (at x t) ≡ tally g (at y t) + hit y x * g v
      go (same p q) = simp (p, eqb_same, hit_same) (omega arith)
      go (apart p q) = simp (q, hit_apart y x p) (omega arith)

  pub tally_remove : (g : A → ℕ) (y x : ℕ) (t : Table A) → tally g (at y (remove x t)) + hit y x * tally g (at x t) ≡ tally g (at y t)
  unfolding tally
  tally_remove g y x t = rw (at_remove y x t) (go (alike y x))
    where
      go : Alike y x → tally g (cond (eqb y x) none (at y t)) + hit y x * tally g (at x t) ≡ tally g (at y t)
      go (same p q) = simp (p, eqb_same, hit_same) (omega arith)
      go (apart p q) = simp (q, hit_apart y x p) (omega arith)

  pub occ_keys_where : (f : A → Bool) (x n : ℕ) (t : Table A) → From n t → occ x (keys_where f t) ≡ tally (λ v. bit_of (f v)) (at x t)
  unfolding keys_where occ at tally From
  occ_keys_where f x n [] r = refl
  occ_keys_where f x n (e ∷ t) r = go (alike x e.key) (f e.val) refl (occ_keys_where f x (suc e.key) t r.1)
    where
      go : Alike x e.key → (c : Bool) → f e.val ≡ c → occ x (keys_where f t) ≡ tally (λ v. bit_of (f v)) (at x t)
          → occ x (keys_where f (e ∷ t)) ≡ tally (λ v. bit_of (f v)) (at x (e ∷ t))
      go (same p q) true u h = let z : occ x (keys_where f t) ≡ 0 = rw (at_below x (suc e.key) t r.1 (omega arith)) at h in
          simp (u, q) (rw (← p) (simp hit_same (omega arith)))
      go (same p q) false u h = simp (u, q) (rw (at_below x (suc e.key) t r.1 (omega arith)) at h)
      go (apart p q) true u h = simp (u, q, hit_apart x e.key p) (omega arith)
      go (apart p q) false u h = simp (u, q) h

-- a number that the change does not touch
module _ {A : Type 0} where
  pub tally_same : (g : A → ℕ) (f : A → A) → ((v : A) → g (f v) ≡ g v) → (y x : ℕ) (t : Table A) → tally g (at y (update x f t)) ≡ tally g (at y t)
  unfolding tally
  tally_same g f e y x t = omega (arith, tally_update g y x f t, ap (λ n. hit y x * n) (go (at x t)))
    where
      go : (o : Option A) → tally (λ v. g (f v)) o ≡ tally g o
      go none = refl
      go (some v) = e v

  -- an entry put where one stands leaves the keys as they are
  pub known_put : (y x : ℕ) (v : A) (t : Table A) → tally (λ a. 1) (at x t) ≡ 1 → tally (λ a. 1) (at y (put x v t)) ≡ tally (λ a. 1) (at y t)
  known_put y x v t e = omega (arith, rw e at (tally_put (λ a. 1) y x v t))

  pub tally_each : (g : A → ℕ) (f : ℕ → A → A) → ((k : ℕ) (v : A) → g (f k v) ≡ g v) → (y : ℕ) (t : Table A) → tally g (at y (each f t)) ≡ tally g (at y t)
  unfolding tally
  tally_each g f e y t = rw (at_each f y t) (go (at y t))
    where
      go : (o : Option A) → tally g (map (f y) o) ≡ tally g o
      go none = refl
      go (some v) = e y v

  pub known_most : (o : Option A) → tally (λ a. 1) o ≤ 1
  unfolding tally
  known_most none = omega arith
  known_most (some v) = omega arith

  pub known_more : (y x : ℕ) (v : A) (t : Table A) → tally (λ a. 1) (at y t) ≤ tally (λ a. 1) (at y (put x v t))
  unfolding tally
  known_more y x v t = rw (at_put y x v t) (go (eqb y x))
    where
      go : (c : Bool) → tally (λ a. 1) (at y t) ≤ tally (λ a. 1) (cond c (some v) (at y t))
      go true = known_most (at y t)
      go false = omega arith
