-- Laws of rotations: what opening, dropping and keeping does to a number added up over them.
use mathlib.Core.Path.{◌≡◌, refl, sym, ◌∙◌}
use mathlib.Core.Logic.{◌≢◌}
use mathlib.Core.List.{List, [], ◌∷◌}
use mathlib.Core.Bool.{Bool, true, false, cond, not, true≢false, false≢true}
use Prim.Native.Nat.{ℕ, ◌+◌, ◌*◌, ◌≤◌}
use native.Mathlib.Omega.{arith}
use lib.Dec.{eqb}
use Rattle.types.specs.Numbers.{Shard, Id}
use Rattle.rules.specs.Lists.{◌and◌, ◌or◌, any, keep}
use Rattle.rules.specs.Board.{Rotation}
use Rattle.rules.specs.WellFormed.{rotation_before}
use Rattle.rules.specs.Moves.{has_party, is_on, open_rotation, drop_first, drop_rotations, entrants_on}
use Rattle.rules.proofs.Counts.{Alike, same, apart, alike, eqb_same, hit, hit_same, hit_apart, occ}
use Rattle.rules.proofs.Tests.{and_parts, eq_of, of_no}
use Rattle.rules.proofs.Seats.{total, party_of, party}

module _ (g : Rotation → ℕ) where
  pub total_open : (r : Rotation) (l : List Rotation) → total g (open_rotation r l) ≡ g r + total g l
  unfolding total open_rotation
  total_open r [] = refl
  total_open r (q ∷ l) = go (rotation_before r q) (total_open r l)
    where
      go : (c : Bool) → total g (open_rotation r l) ≡ g r + total g l → total g (cond c (r ∷ q ∷ l) (q ∷ open_rotation r l)) ≡ g r + total g (q ∷ l)
      go true h = refl
      go false h = omega arith

  module _ (f : Rotation → Bool) where
    pub total_drop : (l : List Rotation) → total g (drop_first f l) ≤ total g l
    unfolding total drop_first
    total_drop [] = omega arith
    total_drop (r ∷ l) = go (f r) (total_drop l)
      where
        go : (c : Bool) → total g (drop_first f l) ≤ total g l → total g (cond c l (r ∷ drop_first f l)) ≤ total g (r ∷ l)
        go true h = omega arith
        go false h = omega arith

    -- at least m goes, and at most m
    pub drop_least : (m : ℕ) → ((r : Rotation) → f r ≡ true → m ≤ g r) → (l : List Rotation) → any f l ≡ true → m + total g (drop_first f l) ≤ total g l
    unfolding total drop_first any ◌or◌
    drop_least m k [] h = absurd (false≢true h)
    drop_least m k (r ∷ l) h = go (f r) refl h (drop_least m k l)
      where
        go : (c : Bool) → f r ≡ c → (c or any f l) ≡ true → (any f l ≡ true → m + total g (drop_first f l) ≤ total g l) → m + total g (cond c l (r ∷ drop_first f l)) ≤ total g (r ∷ l)
        go true e n ih = omega (arith, k r e)
        go false e n ih = omega (arith, ih n)

    pub drop_most : (m : ℕ) → ((r : Rotation) → f r ≡ true → g r ≤ m) → (l : List Rotation) → total g l ≤ m + total g (drop_first f l)
    unfolding total drop_first
    drop_most m k [] = omega arith
    drop_most m k (r ∷ l) = go (f r) refl (drop_most m k l)
      where
        go : (c : Bool) → f r ≡ c → total g l ≤ m + total g (drop_first f l) → total g (r ∷ l) ≤ m + total g (cond c l (r ∷ drop_first f l))
        go true e ih = omega (arith, k r e)
        go false e ih = omega arith

    -- what no rotation passes adds up to nothing
    pub none_total : ((r : Rotation) → f r ≡ false → g r ≡ 0) → (l : List Rotation) → any f l ≡ false → total g l ≡ 0
    unfolding total any ◌or◌
    none_total k [] h = refl
    none_total k (r ∷ l) h = go (f r) refl h (none_total k l)
      where
        go : (c : Bool) → f r ≡ c → (c or any f l) ≡ false → (any f l ≡ false → total g l ≡ 0) → total g (r ∷ l) ≡ 0
        go true e n ih = absurd (true≢false n)
        go false e n ih = omega (arith, k r e, ih n)

    pub some_total : ((r : Rotation) → f r ≡ false → g r ≡ 0) → (l : List Rotation) → 1 ≤ total g l → any f l ≡ true
    some_total k l h = go (any f l) refl
      where
        go : (c : Bool) → any f l ≡ c → c ≡ true
        go true e = refl
        go false e = absurd (omega (arith, none_total k l e))

    pub total_keep : (l : List Rotation) → total g (keep f l) ≤ total g l
    unfolding total keep
    total_keep [] = omega arith
    total_keep (r ∷ l) = go (f r) (total_keep l)
      where
        go : (c : Bool) → total g (keep f l) ≤ total g l → total g (cond c (r ∷ keep f l) (keep f l)) ≤ total g (r ∷ l)
        go true h = omega arith
        go false h = omega arith

    -- only what counts nothing is kept, or only what counts nothing goes
    keep_none : ((r : Rotation) → f r ≡ true → g r ≡ 0) → (l : List Rotation) → total g (keep f l) ≡ 0
    unfolding total keep
    keep_none k [] = refl
    keep_none k (r ∷ l) = go (f r) refl (keep_none k l)
      where
        go : (c : Bool) → f r ≡ c → total g (keep f l) ≡ 0 → total g (cond c (r ∷ keep f l) (keep f l)) ≡ 0
        go true e h = omega (arith, k r e)
        go false e h = h

    keep_all : ((r : Rotation) → f r ≡ false → g r ≡ 0) → (l : List Rotation) → total g (keep f l) ≡ total g l
    unfolding total keep
    keep_all k [] = refl
    keep_all k (r ∷ l) = go (f r) refl (keep_all k l)
      where
        go : (c : Bool) → f r ≡ c → total g (keep f l) ≡ total g l → total g (cond c (r ∷ keep f l) (keep f l)) ≡ total g (r ∷ l)
        go true e h = omega arith
        go false e h = omega (arith, k r e)

-- ---- parties

pub party_yes : (s : Shard) (x : Id) (r : Rotation) → has_party s x r ≡ true → 1 ≤ party_of s x r
unfolding has_party ◌or◌
party_yes s x r h = let p = and_parts _ _ h in rw (eq_of r.shard s p.0) (simp hit_same (go (alike r.victim x) (alike r.entrant x) p.1))
  where
    go : Alike r.victim x → Alike r.entrant x → (eqb r.victim x or eqb r.entrant x) ≡ true → 1 ≤ 1 * (hit x r.victim + hit x r.entrant)
    go (same p v) c n = rw p (omega (arith, hit_same x))
    go (apart p v) (same q w) n = rw q (omega (arith, hit_same x))
    go (apart p v) (apart q w) n = absurd (false≢true (rw (v, w) at n))

pub party_no : (s : Shard) (x : Id) (r : Rotation) → has_party s x r ≡ false → party_of s x r ≡ 0
unfolding has_party ◌and◌ ◌or◌
party_no s x r h = go (alike r.shard s) (alike r.victim x) (alike r.entrant x)
  where
    go : Alike r.shard s → Alike r.victim x → Alike r.entrant x → party_of s x r ≡ 0
    go (apart p u) c d = rw (hit_apart s r.shard (λ z. p (sym z))) (omega arith)
    go (same p u) (same q v) d = absurd (true≢false (rw (u, v) at h))
    go (same p u) (apart q v) (same k w) = absurd (true≢false (rw (u, v, w) at h))
    go (same p u) (apart q v) (apart k w) = rw (hit_apart x r.victim (λ z. q (sym z)), hit_apart x r.entrant (λ z. k (sym z))) (omega arith)

-- the shard's rotations gone
pub party_gone : (s : Shard) (x : Id) (l : List Rotation) → party s x (drop_rotations s l) ≡ 0
unfolding drop_rotations
party_gone s x l = keep_none (party_of s x) (λ r. not (is_on s r)) (λ r e. rw (hit_apart s r.shard (off r e)) (omega arith)) l
  where
    off : (r : Rotation) → not (is_on s r) ≡ true → s ≢ r.shard
    off r e p = true≢false (sym e ∙ rw p (rw eqb_same))

pub party_stays : (s t : Shard) (x : Id) (l : List Rotation) → t ≢ s → party t x (drop_rotations s l) ≡ party t x l
unfolding drop_rotations
party_stays s t x l n = keep_all (party_of t x) (λ r. not (is_on s r)) (λ r e. rw (hit_apart t r.shard (off r e)) (omega arith)) l
  where
    off : (r : Rotation) → not (is_on s r) ≡ false → t ≢ r.shard
    off r e p = n (p ∙ eq_of _ _ (of_no _ e))

pub party_fewer : (s t : Shard) (x : Id) (l : List Rotation) → party t x (drop_rotations s l) ≤ party t x l
unfolding drop_rotations
party_fewer s t x l = total_keep (party_of t x) (λ r. not (is_on s r)) l

-- entrants are parties
pub entrants_party : (s : Shard) (x : Id) (l : List Rotation) → occ x (entrants_on s l) ≤ party s x l
unfolding entrants_on total occ
entrants_party s x [] = omega arith
entrants_party s x (r ∷ l) = go (alike r.shard s) (entrants_party s x l)
  where
    go : Alike r.shard s → occ x (entrants_on s l) ≤ party s x l → occ x (entrants_on s (r ∷ l)) ≤ party s x (r ∷ l)
    go (same p v) h = rw v (rw p (simp hit_same (omega arith)))
    go (apart p v) h = rw v (omega arith)
