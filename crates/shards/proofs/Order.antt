-- Rotations in order: the one of a shard and a victim stands at one row, and is the first such.
use Prim.Native.Nat.{ℕ, zero, suc, ◌<◌}
use mathlib.Core.Path.{◌≡◌, refl, ap, ◌∙◌}
use mathlib.Core.List.{List, [], ◌∷◌}
use mathlib.Core.Bool.{true, false}
use native.Mathlib.Omega.{arith}
use borrow.Author.Tests.{eq-eqb, ne_eqb}
use lib.ListN.{length, get_or}
use Rattle.rules.specs.Lists.{◌and◌}
use Rattle.rules.specs.Board.{Rotation}
use Rattle.rules.specs.WellFormed.{rising, rotation_before}
use Rattle.rules.specs.Moves.{drop_first}
use Rattle.rules.specs.Places.{is_rotation}
use Rattle.rules.proofs.Counts.{Alike, same, apart, alike}
use Rattle.rules.proofs.Tests.{and_parts}
use Rattle.rules.proofs.KeptRotations.{before_of_lem, before_trans}
use Rattle.tables.specs.Rows.{first_where, remove_at}
use Rattle.tables.proofs.Keys.{drop_is_remove_at}

before_all : (q : Rotation) (l : List Rotation) (i : ℕ) (d : Rotation) → rising rotation_before (q ∷ l) ≡ true → i < length l → rotation_before q (get_or l i d) ≡ true
unfolding rising
before_all q [] i d r h = absurd (omega arith)
before_all q (x ∷ l) zero d r h = (and_parts _ _ r).0
before_all q (x ∷ l) (suc i) d r h =
    let p = and_parts (rotation_before q x) _ r in
    before_trans q x (get_or l i d) p.0 (before_all x l i d p.1 (omega arith))

rest : (q : Rotation) (l : List Rotation) → rising rotation_before (q ∷ l) ≡ true → rising rotation_before l ≡ true
unfolding rising
rest q [] r = refl
rest q (x ∷ l) r = (and_parts (rotation_before q x) _ r).1

-- one that is before another is not of the same shard and victim
other : (q r : Rotation) → rotation_before q r ≡ true → is_rotation r.shard r.victim q ≡ false
unfolding ◌and◌
other q r h = go (alike q.shard r.shard)
  where
    go : Alike q.shard r.shard → is_rotation r.shard r.victim q ≡ false
    go (same p t) = rw (t, ne_eqb q.victim r.victim (λ e. omega (arith, (before_of_lem q r h).victim (omega arith))))
    go (apart p t) = rw t

self : (r : Rotation) → is_rotation r.shard r.victim r ≡ true
unfolding ◌and◌
self r = rw (eq-eqb r.shard r.shard refl, eq-eqb r.victim r.victim refl)

-- the rotation at row i is the first of its shard and victim
pub rotation_first : (l : List Rotation) (i : ℕ) (d : Rotation) → rising rotation_before l ≡ true → i < length l
    → first_where (is_rotation (get_or l i d).shard (get_or l i d).victim) l ≡ i
unfolding first_where
rotation_first [] i d r h = absurd (omega arith)
rotation_first (q ∷ l) zero d r h = rw (self q)
rotation_first (q ∷ l) (suc i) d r h =
    rw (other q (get_or l i d) (before_all q l i d r (omega arith))) (ap suc (rotation_first l i d (rest q l r) (omega arith)))

-- so it goes where its row does
pub rotation_goes : (l : List Rotation) (i : ℕ) (d : Rotation) → rising rotation_before l ≡ true → i < length l
    → drop_first (is_rotation (get_or l i d).shard (get_or l i d).victim) l ≡ remove_at l i
rotation_goes l i d r h = drop_is_remove_at (is_rotation (get_or l i d).shard (get_or l i d).victim) l ∙ ap (remove_at l) (rotation_first l i d r h)
