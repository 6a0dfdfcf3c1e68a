-- Rotations that stay good: by shard, then victim.
use mathlib.Core.Path.{◌≡◌, refl, ap, sym, ◌∙◌}
use mathlib.Core.Logic.{◌⊎◌, inl, inr}
use mathlib.Core.List.{List, [], ◌∷◌}
use mathlib.Core.Bool.{Bool, true, false, true≢false}
use Prim.Native.Nat.{suc, ◌≤◌, ◌<◌}
use native.Mathlib.Omega.{arith}
use lib.Dec.{eqb, ltb}
use lib.ListN.{length}
use Rattle.types.specs.Numbers.{Shard}
use Rattle.rules.specs.Lists.{◌and◌, ◌or◌, every, any}
use Rattle.rules.specs.Board.{Rotation, most_rotations}
use Rattle.rules.specs.WellFormed.{rising, good_list, good_rotation, rotation_before}
use Rattle.rules.specs.Moves.{has_party, open_rotation, drop_first, drop_rotations}
use Rattle.rules.proofs.Counts.{Alike, same, apart, alike}
use Rattle.rules.proofs.Tests.{by_cases, and_parts, and_joins, or_cases, or_left, or_right, all_parts, all_joins, le_of, of_le, lt_of_no, eq_of, of_eq, every_parts, every_join, every_none, every_weaken}
use Rattle.rules.proofs.KeptLists.{Part, end, kept, gone, part_all, part_keep, part_length, part_every}

pub record Before (q r : Rotation) : Type 0 where
  pub shard : q.shard ≤ r.shard
  pub victim : r.shard ≤ q.shard → q.victim < r.victim

pub before_of_lem : (q r : Rotation) → rotation_before q r ≡ true → Before q r
unfolding rotation_before
before_of_lem q r h = go (or_cases _ _ h)
  where
    go : (ltb q.shard r.shard ≡ true) ⊎ ((eqb q.shard r.shard and ltb q.victim r.victim) ≡ true) → Before q r
    go (inl a) = let l : q.shard < r.shard = le_of _ _ a in record { shard = omega arith; victim = λ k. absurd (omega arith) }
    go (inr a) = let e : q.shard ≡ r.shard = eq_of _ _ (and_parts _ _ a).0 in record { shard = omega arith; victim = λ k. le_of _ _ (and_parts _ _ a).1 }

of_before : (q r : Rotation) → Before q r → rotation_before q r ≡ true
unfolding rotation_before
of_before q r h = go (alike q.shard r.shard)
  where
    go : Alike q.shard r.shard → (ltb q.shard r.shard or (eqb q.shard r.shard and ltb q.victim r.victim)) ≡ true
    go (same p t) = or_right _ _ (and_joins _ _ t (of_le _ _ (h.victim (omega arith))))
    go (apart p t) = or_left _ _ (of_le (suc q.shard) r.shard (omega (arith, h.shard)))

pub before_trans : (p q r : Rotation) → rotation_before p q ≡ true → rotation_before q r ≡ true → rotation_before p r ≡ true
before_trans p q r a b =
    let u = before_of_lem p q a in
    let v = before_of_lem q r b in
    of_before p r (record {
      shard = omega (arith, u.shard, v.shard);
      victim = λ k. omega (arith, u.victim (omega (arith, v.shard)), v.victim (omega (arith, u.shard)));
    })

or_none : (a b : Bool) → (a or b) ≡ false → (a ≡ false) × (b ≡ false)
unfolding ◌or◌
or_none true b h = absurd (true≢false h)
or_none false b h = (refl, h)

not_before : (q r : Rotation) → rotation_before q r ≡ false → (r.shard ≤ q.shard) × (q.shard ≡ r.shard → r.victim ≤ q.victim)
unfolding rotation_before ◌and◌
not_before q r h =
    let p = or_none _ _ h in
    (omega (arith, lt_of_no (suc q.shard) r.shard p.0), λ e. omega (arith, lt_of_no (suc q.victim) r.victim (rw (of_eq q.shard r.shard e) at p.1)))

-- two that are not of one shard and victim: one goes before the other
before_other : (q r : Rotation) → has_party r.shard r.victim q ≡ false → rotation_before r q ≡ false → rotation_before q r ≡ true
unfolding has_party
before_other q r n h = go (rotation_before q r) refl
  where
    go : (c : Bool) → rotation_before q r ≡ c → c ≡ true
    go true e = refl
    go false e =
        let u = not_before q r e in
        let v = not_before r q h in
        let s : q.shard ≡ r.shard = omega (arith, u.0, v.0) in
        let x : q.victim ≡ r.victim = omega (arith, u.1 s, v.1 (sym s)) in
        absurd (true≢false (sym (and_joins _ _ (of_eq _ _ s) (or_left _ _ (of_eq _ _ x))) ∙ n))

-- each before all that follow it
unfoldable pub Sorted : List Rotation → Type 0
Sorted [] = Unit {0}
Sorted (r ∷ l) = (every (rotation_before r) l ≡ true) × Sorted l

rising_sorted : (l : List Rotation) → rising rotation_before l ≡ true → Sorted l
unfolding rising Sorted
rising_sorted [] h = tt
rising_sorted (r ∷ []) h = (every_none _, tt)
rising_sorted (r ∷ q ∷ l) h =
    let p = and_parts _ _ h in
    let k = rising_sorted (q ∷ l) p.1 in
    (every_join _ _ _ p.0 (every_weaken _ _ (λ x. before_trans r q x p.0) l k.0), k)

sorted_rising : (l : List Rotation) → Sorted l → rising rotation_before l ≡ true
unfolding rising Sorted
sorted_rising [] h = refl
sorted_rising (r ∷ []) h = refl
sorted_rising (r ∷ q ∷ l) h = and_joins _ _ (every_parts _ _ _ h.0).0 (sorted_rising (q ∷ l) h.1)

sorted_part : {k l : List Rotation} → Part k l → Sorted l → Sorted k
unfolding Sorted
sorted_part end h = tt
sorted_part (kept p) h = (part_every _ p h.0, sorted_part p h.1)
sorted_part (gone p) h = sorted_part p h.1

part_drop_first : (f : Rotation → Bool) (l : List Rotation) → Part (drop_first f l) l
unfolding drop_first
part_drop_first f [] = end
part_drop_first f (r ∷ l) = by_cases (λ k. Part k (r ∷ l)) (f r) l (r ∷ drop_first f l) (λ e. gone (part_all l)) (λ e. kept (part_drop_first f l))

every_open : (g : Rotation → Bool) (r : Rotation) (l : List Rotation) → g r ≡ true → every g l ≡ true → every g (open_rotation r l) ≡ true
unfolding open_rotation
every_open g r [] p h = every_join _ _ _ p h
every_open g r (q ∷ l) p h =
    let k = every_parts _ _ _ h in
    by_cases (λ m. every g m ≡ true) (rotation_before r q) (r ∷ q ∷ l) (q ∷ open_rotation r l) (λ e. every_join _ _ _ p h) (λ e. every_join _ _ _ k.0 (every_open g r l p k.1))

length_open : (r : Rotation) (l : List Rotation) → length (open_rotation r l) ≡ suc (length l)
unfolding open_rotation
length_open r [] = refl
length_open r (q ∷ l) = by_cases (λ m. length m ≡ suc (suc (length l))) (rotation_before r q) (r ∷ q ∷ l) (q ∷ open_rotation r l) (λ e. refl) (λ e. ap suc (length_open r l))

sorted_open : (r : Rotation) (l : List Rotation) → any (has_party r.shard r.victim) l ≡ false → Sorted l → Sorted (open_rotation r l)
unfolding open_rotation Sorted any
sorted_open r [] n h = (every_none _, tt)
sorted_open r (q ∷ l) n h =
    let u = or_none _ _ n in
    by_cases Sorted (rotation_before r q) (r ∷ q ∷ l) (q ∷ open_rotation r l)
    (λ e. (every_join _ _ _ e (every_weaken _ _ (λ x. before_trans r q x e) l h.0), h))
    (λ e. (every_open _ r l (before_other q r u.0 e) h.0, sorted_open r l u.1 h.1))

-- what `good_list` says of rotations
pub record Rota (l : List Rotation) : Type 0 where
  pub room : length l ≤ most_rotations
  pub each_good : every good_rotation l ≡ true
  pub sorted : Sorted l

pub rota_of : (l : List Rotation) → good_list most_rotations good_rotation rotation_before l ≡ true → Rota l
unfolding good_list
rota_of l h = let p = all_parts _ h in record { room = le_of _ _ p.0; each_good = p.1.0; sorted = rising_sorted l p.1.1.0 }

pub of_rota : {l : List Rotation} → Rota l → good_list most_rotations good_rotation rotation_before l ≡ true
unfolding good_list
of_rota {l} h = all_joins _ (of_le _ _ h.room, (h.each_good, (sorted_rising l h.sorted, tt)))

pub Rota-part : {k l : List Rotation} → Part k l → Rota l → Rota k
Rota-part p h = record { room = omega (arith, part_length p, h.room); each_good = part_every _ p h.each_good; sorted = sorted_part p h.sorted }

pub Rota-drop_first : (f : Rotation → Bool) {l : List Rotation} → Rota l → Rota (drop_first f l)
Rota-drop_first f {l} = Rota-part (part_drop_first f l)

pub Rota-drop_rotations : (s : Shard) {l : List Rotation} → Rota l → Rota (drop_rotations s l)
unfolding drop_rotations
Rota-drop_rotations s {l} = Rota-part (part_keep _ l)

-- one more, whose victim is no party of a rotation on its shard
pub Rota-open : (r : Rotation) {l : List Rotation} → good_rotation r ≡ true → any (has_party r.shard r.victim) l ≡ false → length l < most_rotations → Rota l → Rota (open_rotation r l)
Rota-open r {l} g n m h = record { room = rw (length_open r l) m; each_good = every_open _ r l g h.each_good; sorted = sorted_open r l n h.sorted }
