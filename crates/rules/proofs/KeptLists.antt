-- Lists of ids that stay good: in their range and distinct.
use mathlib.Core.Path.{◌≡◌, refl, ap, sym, ◌∙◌}
use mathlib.Core.List.{List, [], ◌∷◌, ◌++◌}
use mathlib.Core.Bool.{Bool, true, false, not}
use Prim.Native.Nat.{ℕ, suc, ◌+◌, ◌≤◌, ◌<◌}
use native.Mathlib.Omega.{arith}
use lib.Dec.{eqb, leb}
use lib.ListN.{length, take, drop, take-append-drop, length-append}
use Rattle.types.specs.Numbers.{Id}
use Rattle.rules.specs.Lists.{every, keep, has, distinct, strike, insert, sort}
use Rattle.rules.specs.WellFormed.{is_word, good_ids}
use Rattle.rules.proofs.Counts.{Alike, same, apart, alike, hit, hit_same, hit_apart, occ, occ_nil, occ_append, occ_single}
use Rattle.rules.proofs.Tests.{by_cases, and_parts, and_joins, all_parts, all_joins, of_not, not_of, le_of, of_le, lt_of_no, every_parts, every_join, every_has, has_every, has_occ}

-- ---- parts of a list: some of it, in its order

module _ {A : Type 0} where
  pub data Part : List A → List A → Type 0 where
    end : Part [] []
    kept : {x : A} {k l : List A} → Part k l → Part (x ∷ k) (x ∷ l)
    gone : {x : A} {k l : List A} → Part k l → Part k (x ∷ l)

  pub part_all : (l : List A) → Part l l
  part_all [] = end
  part_all (x ∷ l) = kept (part_all l)

  pub part_keep : (f : A → Bool) (l : List A) → Part (keep f l) l
  unfolding keep
  part_keep f [] = end
  part_keep f (x ∷ l) = by_cases (λ k. Part k (x ∷ l)) (f x) (x ∷ keep f l) (keep f l) (λ e. kept (part_keep f l)) (λ e. gone (part_keep f l))

  pub part_length : {k l : List A} → Part k l → length k ≤ length l
  part_length end = omega arith
  part_length (kept p) = let h = part_length p in omega arith
  part_length (gone p) = let h = part_length p in omega arith

  pub part_every : (g : A → Bool) {k l : List A} → Part k l → every g l ≡ true → every g k ≡ true
  part_every g end h = h
  part_every g (kept p) h = every_join _ _ _ (every_parts _ _ _ h).0 (part_every g p (every_parts _ _ _ h).1)
  part_every g (gone p) h = part_every g p (every_parts _ _ _ h).1

pub part_occ : (x : ℕ) {k l : List ℕ} → Part k l → occ x k ≤ occ x l
unfolding occ
part_occ x end = omega arith
part_occ x (kept p) = let h = part_occ x p in omega arith
part_occ x (gone p) = let h = part_occ x p in omega arith

pub occ_drop : (x k : ℕ) (l : List ℕ) → occ x (drop k l) ≤ occ x l
occ_drop x k l =
    let e : occ x (take k l) + occ x (drop k l) ≡ occ x l = sym (occ_append x (take k l) (drop k l)) ∙ rw take-append-drop in
    omega arith

-- ---- sorting

occ_insert : (x y : ℕ) (l : List ℕ) → occ x (insert y l) ≡ hit x y + occ x l
unfolding insert occ
occ_insert x y [] = refl
occ_insert x y (z ∷ l) =
    let h = occ_insert x y l in
    by_cases (λ k. occ x k ≡ hit x y + (hit x z + occ x l)) (leb y z) (y ∷ z ∷ l) (z ∷ insert y l) (λ e. refl) (λ e. omega arith)

pub occ_sort : (x : ℕ) (l : List ℕ) → occ x (sort l) ≡ occ x l
unfolding sort occ
occ_sort x [] = refl
occ_sort x (y ∷ l) = occ_insert x y (sort l) ∙ ap (λ n. hit x y + n) (occ_sort x l)

length_insert : (y : ℕ) (l : List ℕ) → length (insert y l) ≡ suc (length l)
unfolding insert
length_insert y [] = refl
length_insert y (z ∷ l) = by_cases (λ k. length k ≡ suc (suc (length l))) (leb y z) (y ∷ z ∷ l) (z ∷ insert y l) (λ e. refl) (λ e. ap suc (length_insert y l))

pub length_sort : (l : List ℕ) → length (sort l) ≡ length l
unfolding sort
length_sort [] = refl
length_sort (y ∷ l) = length_insert y (sort l) ∙ ap suc (length_sort l)

-- ---- ids: each at most once

pub distinct_once : (l : List ℕ) → distinct l ≡ true → (x : ℕ) → occ x l ≤ 1
unfolding distinct occ
distinct_once [] h x = omega arith
distinct_once (y ∷ l) h x = go (alike x y) (of_not _ (and_parts _ _ h).0) (distinct_once l (and_parts _ _ h).1 x)
  where
    go : Alike x y → has y l ≡ false → occ x l ≤ 1 → hit x y + occ x l ≤ 1
    go (same p q) n k = rw p (omega (arith, hit_same y, lt_of_no 1 (occ y l) (sym (has_occ y l) ∙ n)))
    go (apart p q) n k = omega (arith, hit_apart x y p)

pub once_distinct : (l : List ℕ) → ((x : ℕ) → occ x l ≤ 1) → distinct l ≡ true
unfolding distinct occ
once_distinct [] h = refl
once_distinct (y ∷ l) h =
    let z : occ y l ≡ 0 = omega (arith, hit_same y, h y) in
    and_joins _ _ (not_of _ (has_occ y l ∙ rw z)) (once_distinct l (λ x. omega (arith, h x)))

-- what `good_ids` says
pub record Ids (most : ℕ) (l : List Id) : Type 0 where
  pub room : length l ≤ most
  pub words : (x : ℕ) → 1 ≤ occ x l → is_word x ≡ true
  pub once : (x : ℕ) → occ x l ≤ 1

pub ids_of : (most : ℕ) (l : List Id) → good_ids most l ≡ true → Ids most l
unfolding good_ids
ids_of most l h = let p = all_parts _ h in record { room = le_of _ _ p.0; words = λ x. every_has is_word l x p.1.0; once = distinct_once l p.1.1.0 }

pub of_ids : {most : ℕ} {l : List Id} → Ids most l → good_ids most l ≡ true
unfolding good_ids
of_ids {l} h = all_joins _ (of_le _ _ h.room, (has_every is_word l h.words, (once_distinct l h.once, tt)))

pub Ids-none : (most : ℕ) → Ids most []
Ids-none most = record { room = omega arith; words = λ x o. absurd (omega (arith, occ_nil x)); once = λ x. omega (arith, occ_nil x) }

-- no longer, and nothing more often: a part, or the same in another order
pub Ids-part : {m n : ℕ} {k l : List Id} → Ids m l → length k ≤ n → ((x : ℕ) → occ x k ≤ occ x l) → Ids n k
Ids-part h r o = record { room = r; words = λ x w. h.words x (omega (arith, o x)); once = λ x. omega (arith, o x, h.once x) }

pub Ids-strike : (x : Id) {most : ℕ} {l : List Id} → Ids most l → Ids most (strike x l)
unfolding strike
Ids-strike x {most} {l} h =
    let p = part_keep (λ y. not (eqb y x)) l in
    Ids-part h (omega (arith, part_length p, h.room)) (λ y. part_occ y p)

-- one more at the end, that is not there yet
pub Ids-join : {most : ℕ} {l : List Id} (x : Id) → Ids most l → is_word x ≡ true → occ x l ≡ 0 → length l < most → Ids most (l ++ (x ∷ []))
Ids-join {most} {l} x h w z r = record {
  room = rw length-append (omega arith);
  words = λ y o. was y (alike y x) (omega (arith, occ_append y l (x ∷ []), occ_single y x));
  once = λ y. rw (occ_append y l (x ∷ []), occ_single y x) (fresh y (alike y x));
}
  where
    was : (y : ℕ) → Alike y x → 1 ≤ occ y l + hit y x → is_word y ≡ true
    was y (same p q) o = rw p w
    was y (apart p q) o = h.words y (omega (arith, hit_apart y x p))

    fresh : (y : ℕ) → Alike y x → occ y l + hit y x ≤ 1
    fresh y (same p q) = rw p (omega (arith, hit_same x))
    fresh y (apart p q) = omega (arith, h.once y, hit_apart y x p)
