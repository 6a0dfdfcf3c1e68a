-- How often a number stands in a list. One equation on counts says both "is there" and "is there once".
use mathlib.Core.Path.{subst, ◌≡◌, refl, ap, sym, ◌∙◌}
use mathlib.Core.Logic.{◌≢◌}
use mathlib.Core.List.{List, [], ◌∷◌, ◌++◌}
use mathlib.Core.Bool.{Bool, true, false, cond, not, true≢false}
use Prim.Native.Nat.{ℕ, zero, suc, ◌+◌, ◌*◌, ◌-◌, ◌≤◌, ◌<◌}
use native.Mathlib.Omega.{arith}
use native.Mathlib.Nat.{zero-add}
use lib.Dec.{eqb, leb, leb→le, eqb→eq, eqb_refl, T}
use lib.ListN.{length, take, drop, get_or, set, take-append-drop, length-set}
use lib.Seq.{get_or-set_same, get_or-set_other}
use Rattle.rules.specs.Lists.{bit_of, count, keep, strike}
use Rattle.rules.specs.Draws.{drew, too_large, and_then, draw_index, exchange, shuffle_from, shuffle}

-- the two outcomes of a test on two numbers, each with what it means
pub data Alike (a b : ℕ) : Type 0 where
  same : a ≡ b → eqb a b ≡ true → Alike a b
  apart : a ≢ b → eqb a b ≡ false → Alike a b

pub T_true : (c : Bool) → T c → c ≡ true
T_true true t = refl
T_true false t = absurd t

pub eqb_same : (a : ℕ) → eqb a a ≡ true
eqb_same a = T_true (eqb a a) (eqb_refl a)

pub alike : (a b : ℕ) → Alike a b
alike a b = go (eqb a b) refl
  where
    go : (c : Bool) → eqb a b ≡ c → Alike a b
    go true e = same (eqb→eq a b (rw e tt)) e
    go false e = apart (λ p. true≢false (sym (eqb_same b) ∙ rw p at e)) e

pub eqb_apart : (a b : ℕ) → a ≢ b → eqb a b ≡ false
eqb_apart a b n = go (alike a b)
  where
    go : Alike a b → eqb a b ≡ false
    go (same e t) = absurd (n e)
    go (apart m t) = t

-- 1 where two numbers are one, and else 0
unfoldable pub hit : ℕ → ℕ → ℕ
hit a b = bit_of (eqb a b)

pub hit_same : (a : ℕ) → hit a a ≡ 1
unfolding hit
hit_same a = rw eqb_same

pub hit_apart : (a b : ℕ) → a ≢ b → hit a b ≡ 0
unfolding hit
hit_apart a b n = rw (eqb_apart a b n)

pub hit_sym : (a b : ℕ) → hit a b ≡ hit b a
hit_sym a b = go (alike a b)
  where
    go : Alike a b → hit a b ≡ hit b a
    go (same p v) = rw p
    go (apart p v) = hit_apart a b p ∙ sym (hit_apart b a (λ q. p (sym q)))

pub hit_most : (a b : ℕ) → hit a b ≤ 1
unfolding hit
hit_most a b = go (eqb a b)
  where
    go : (c : Bool) → bit_of c ≤ 1
    go true = omega arith
    go false = omega arith

unfoldable pub occ : ℕ → List ℕ → ℕ
occ x [] = 0
occ x (y ∷ l) = hit x y + occ x l

pub occ_nil : (x : ℕ) → occ x [] ≡ 0
unfolding occ
occ_nil x = refl

pub occ_append : (x : ℕ) (l m : List ℕ) → occ x (l ++ m) ≡ occ x l + occ x m
unfolding occ
occ_append x [] m = omega arith
occ_append x (y ∷ l) m = let h = occ_append x l m in omega arith

pub occ_single : (x y : ℕ) → occ x (y ∷ []) ≡ hit x y
unfolding occ
occ_single x y = omega arith

pub occ_take : (x k : ℕ) (l : List ℕ) → occ x (take k l) ≤ occ x l
occ_take x k l =
    let e : occ x (take k l) + occ x (drop k l) ≡ occ x l = sym (occ_append x (take k l) (drop k l)) ∙ rw take-append-drop in
    omega arith

-- an element at a place is there
pub occ_get_d : (l : List ℕ) (i : ℕ) → i < length l → 1 ≤ occ (get_or l i 0) l
unfolding occ
occ_get_d [] i h = omega arith
occ_get_d (y ∷ l) zero h = omega (arith, hit_same y)
occ_get_d (y ∷ l) (suc i) h = let k = occ_get_d l i (omega arith) in omega arith

cond_const : (c : Bool) (n : ℕ) → cond c n n ≡ n
cond_const true n = refl
cond_const false n = refl

pub occ_keep : (f : ℕ → Bool) (x : ℕ) (l : List ℕ) → occ x (keep f l) ≡ cond (f x) (occ x l) 0
unfolding occ keep
occ_keep f x [] = sym (cond_const (f x) 0)
occ_keep f x (y ∷ l) = go (alike x y) (f y) refl (occ_keep f x l)
  where
    here : (c : Bool) → f y ≡ c → occ y (keep f l) ≡ cond (f y) (occ y l) 0 → occ y (keep f (y ∷ l)) ≡ cond (f y) (occ y (y ∷ l)) 0
    here true u h = rw u (rw u at (ap (λ n. hit y y + n) h))
    here false u h = rw u (rw u at h)

    go : Alike x y → (c : Bool) → f y ≡ c → occ x (keep f l) ≡ cond (f x) (occ x l) 0 → occ x (keep f (y ∷ l)) ≡ cond (f x) (occ x (y ∷ l)) 0
    go (same e t) c u h = subst (λ (z : ℕ). occ z (keep f (y ∷ l)) ≡ cond (f z) (occ z (y ∷ l)) 0) (sym e) (here c u (subst (λ (z : ℕ). occ z (keep f l) ≡ cond (f z) (occ z l) 0) e h))
    go (apart n t) true u h = simp (u, hit_apart x y n, zero-add) h
    go (apart n t) false u h = simp (u, hit_apart x y n, zero-add) h

-- tests that agree on a list count alike
pub count_same : (f g : ℕ → Bool) (l : List ℕ) → ((y : ℕ) → 1 ≤ occ y l → f y ≡ g y) → count f l ≡ count g l
unfolding count occ
count_same f g [] e = refl
count_same f g (x ∷ l) e = rw (e x (omega (arith, hit_same x)), count_same f g l (λ y o. e y (omega arith)))

pub occ_strike : (x y : ℕ) (l : List ℕ) → occ y (strike x l) + hit y x * occ x l ≡ occ y l
unfolding strike
occ_strike x y l = rw (occ_keep (λ z. not (eqb z x)) y l) (go (alike y x))
  where
    go : Alike y x → cond (not (eqb y x)) (occ y l) 0 + hit y x * occ x l ≡ occ y l
    go (same p q) = simp (p, eqb_same, hit_same) (omega arith)
    go (apart p q) = simp (q, hit_apart y x p) (omega arith)

-- one element replaced
pub occ_set : (x v : ℕ) (l : List ℕ) (i : ℕ) → i < length l → occ x (set l i v) + hit x (get_or l i 0) ≡ occ x l + hit x v
unfolding occ
occ_set x v [] i h = omega arith
occ_set x v (y ∷ l) zero h = omega arith
occ_set x v (y ∷ l) (suc i) h = let k = occ_set x v l i (omega arith) in omega arith

pub occ_exchange : (x i j : ℕ) (l : List ℕ) → i < length l → j < length l → occ x (exchange i j l) ≡ occ x l
unfolding exchange
occ_exchange x i j l hi hj =
    let a = occ_set x (get_or l j 0) l i hi in
    let b = occ_set x (get_or l i 0) (set l i (get_or l j 0)) j (rw length-set hj) in
    let c : get_or (set l i (get_or l j 0)) j 0 ≡ get_or l j 0 = go (alike j i) in
    let d = rw c at b in
    omega arith
  where
    go : Alike j i → get_or (set l i (get_or l j 0)) j 0 ≡ get_or l j 0
    go (same e t) = rw e (get_or-set_same l i (get_or l i 0) 0 hi)
    go (apart n t) = get_or-set_other l i j (get_or l j 0) 0 n

pub length_exchange : (i j : ℕ) (l : List ℕ) → length (exchange i j l) ≡ length l
unfolding exchange
length_exchange i j l = simp length-set

-- a shuffle keeps how many there are, and neither loses nor makes nor doubles an id
record Mixed (x : ℕ) (l m : List ℕ) : Type 0 where
  size : length m ≡ length l
  ids : occ x m ≡ occ x l

shuffle_step : (x i : ℕ) (l draws m left : List ℕ) → i ≤ length l - 1 → shuffle_from i l draws ≡ drew m left → Mixed x l m
unfolding shuffle_from and_then draw_index
shuffle_step x zero l draws m left h e = let f : l ≡ m = cc in record { size = rw f; ids = rw f }
shuffle_step x (suc i) l [] m left h e = absurd (let z : ◌≡◌ {A = ℕ} 0 1 = cc in omega arith)
shuffle_step x (suc i) l (j ∷ draws) m left h e = go (leb j (suc i)) refl e (shuffle_step x i (exchange (suc i) j l) draws m left (rw length_exchange (omega arith)))
  where
    go : (c : Bool) → leb j (suc i) ≡ c → and_then (cond c (drew j draws) too_large) (λ k rest. shuffle_from i (exchange (suc i) k l) rest) ≡ drew m left
        → (shuffle_from i (exchange (suc i) j l) draws ≡ drew m left → Mixed x (exchange (suc i) j l) m)
        → Mixed x l m
    go true u f ih =
        let k : j ≤ suc i = leb→le j (suc i) (rw u tt) in
        let r = ih f in
        record { size = r.size ∙ length_exchange (suc i) j l; ids = r.ids ∙ occ_exchange x (suc i) j l (omega arith) (omega arith) }
    go false u f ih = absurd (let z : ◌≡◌ {A = ℕ} 0 1 = cc in omega arith)

pub shuffle_keeps : (x : ℕ) (l draws m left : List ℕ) → shuffle l draws ≡ drew m left → (length m ≡ length l) × (occ x m ≡ occ x l)
unfolding shuffle
shuffle_keeps x l draws m left e = let r = shuffle_step x (length l - 1) l draws m left (omega arith) e in (r.size, r.ids)
