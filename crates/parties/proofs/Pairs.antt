-- The parties of every shard are distinct and seated there, exactly if each rotation fits before those after it.
use mathlib.Core.Path.{◌≡◌, refl, ap, sym, ◌∙◌}
use mathlib.Core.List.{List, [], ◌∷◌}
use mathlib.Core.Bool.{Bool, true, false, not, ◌&&◌, ◌||◌}
use lib.Dec.{eqb}
use Rattle.types.specs.Numbers.{Shard, Id}
use Rattle.types.specs.Places.{is_seated_on}
use Rattle.rules.specs.Lists.{◌and◌, ◌or◌, every, any, has, distinct}
use Rattle.rules.specs.Board.{Rotation, Board}
use Rattle.rules.specs.Moves.{says, has_party}
use Rattle.rules.specs.SeatCheck.{parties_on, parties_fit, rotations_fit}
use Rattle.rules.proofs.Counts.{Alike, same, apart, alike, eqb_same}
use Rattle.rules.proofs.Tests.{and_parts, and_joins, every_parts, every_all, every_weaken}
use Rattle.tables.proofs.Bools.{or_is, and_is}
use Rattle.parties.specs.Pairs as pairs
use Rattle.parties.specs.Pairs.{share_party, fits_before}

-- the test as the code writes it
pub share_is : (p q : Rotation)
    → (eqb q.shard p.shard && ((eqb q.victim p.victim || eqb q.entrant p.victim) || (eqb q.victim p.entrant || eqb q.entrant p.entrant))) ≡ share_party p q
unfolding has_party ◌and◌ ◌or◌
share_is p q = rw (or_is (eqb q.victim p.victim), or_is (eqb q.victim p.entrant), or_is, and_is) (go (eqb q.shard p.shard) _ _)
  where
    go : (c d e : Bool) → (c and (d or e)) ≡ ((c and d) or (c and e))
    go true d e = refl
    go false d e = refl

-- ---- a shard's parties

has_parties : (s : Shard) (x : Id) (l : List Rotation) → has x (parties_on s l) ≡ any (has_party s x) l
unfolding has any parties_on has_party ◌and◌ ◌or◌
has_parties s x [] = refl
has_parties s x (r ∷ l) = go (eqb r.shard s) refl (has_parties s x l)
  where
    swap : (c d e : Bool) → (c or (d or e)) ≡ ((c or d) or e)
    swap true d e = refl
    swap false d e = refl

    go : (c : Bool) → eqb r.shard s ≡ c → has x (parties_on s l) ≡ any (has_party s x) l → has x (parties_on s (r ∷ l)) ≡ any (has_party s x) (r ∷ l)
    go true e h = rw (e, parties_on) (swap (eqb r.victim x) (eqb r.entrant x) _ ∙ ap (λ (d : Bool). (eqb r.victim x or eqb r.entrant x) or d) h)
    go false e h = rw (e, parties_on) h

-- no later rotation has either party
apart_is : (r : Rotation) (l : List Rotation) → pairs.apart r l ≡ (not (any (has_party r.shard r.victim) l) and not (any (has_party r.shard r.entrant) l))
unfolding every any ◌and◌ ◌or◌
apart_is r [] = refl
apart_is r (q ∷ l) = ap (λ (c : Bool). not (share_party r q) and c) (apart_is r l) ∙ go (has_party r.shard r.victim q) (has_party r.shard r.entrant q) _ _
  where
    go : (c d e f : Bool) → (not (c or d) and (not e and not f)) ≡ (not (c or e) and not (d or f))
    go true d e f = refl
    go false true true f = refl
    go false true false f = refl
    go false false e f = refl

module _ (b : Board) where
  pub fits_is : (r : Rotation) (l : List Rotation) (c d e : Bool) → c ≡ pairs.apart r l → d ≡ says (is_seated_on r.shard) b r.victim → e ≡ says (is_seated_on r.shard) b r.entrant
      → (not (eqb r.entrant r.victim) && (c && (d && e))) ≡ fits_before b r l
  fits_is r l c d e p q t = rw (← p, ← q, ← t, and_is d, and_is c) (and_is _ _)

  abbrev shard_fits : Shard → List Rotation → Bool
  shard_fits s l = distinct (parties_on s l) and every (says (is_seated_on s) b) (parties_on s l)

  -- a rotation more on the shard
  fits_on : (r : Rotation) (l : List Rotation) → shard_fits r.shard (r ∷ l) ≡ (fits_before b r l and shard_fits r.shard l)
  unfolding parties_on distinct every has any ◌and◌ ◌or◌
  fits_on r l =
      rw (eqb_same r.shard, parties_on) (go (eqb r.entrant r.victim) (has r.victim P) (has r.entrant P) (distinct P) (says (is_seated_on r.shard) b r.victim) (says (is_seated_on r.shard) b r.entrant) _
      ∙ ap (λ (c : Bool). (not (eqb r.entrant r.victim) and c and says (is_seated_on r.shard) b r.victim and says (is_seated_on r.shard) b r.entrant) and shard_fits r.shard l) later)
    where
      P : List Id
      P = parties_on r.shard l

      later : (not (has r.victim P) and not (has r.entrant P)) ≡ pairs.apart r l
      later = rw (has_parties r.shard r.victim l, has_parties r.shard r.entrant l) (sym (apart_is r l))

      go : (a h k d v w e : Bool) → ((not (a or h) and (not k and d)) and (v and (w and e))) ≡ ((not a and ((not h and not k) and (v and w))) and (d and e))
      go true h k d v w e = refl
      go false true k d v w e = refl
      go false false true d v w e = refl
      go false false false true true w e = refl
      go false false false true false w e = refl
      go false false false false true true e = refl
      go false false false false true false e = refl
      go false false false false false w e = refl

  fits_off : (s : Shard) (r : Rotation) (l : List Rotation) → eqb r.shard s ≡ false → shard_fits s (r ∷ l) ≡ shard_fits s l
  unfolding parties_on
  fits_off s r l e = rw (e, parties_on)

  -- ---- both ways

  abbrev pub pairwise : List Rotation → Bool
  pairwise [] = true
  pairwise (r ∷ l) = fits_before b r l and pairwise l

  fits_less : (r : Rotation) (l : List Rotation) (s : Shard) → shard_fits s (r ∷ l) ≡ true → shard_fits s l ≡ true
  fits_less r l s h = go (alike r.shard s)
    where
      go : Alike r.shard s → shard_fits s l ≡ true
      go (same p e) = rw (← p) (and_parts _ _ (sym (fits_on r l) ∙ rw (← p) at h)).1
      go (apart n e) = sym (fits_off s r l e) ∙ h

  fits_pairs : (l : List Rotation) → every (λ r. shard_fits r.shard l) l ≡ true → pairwise l ≡ true
  fits_pairs [] h = refl
  fits_pairs (r ∷ l) h =
      let p = every_parts _ r l h in
      and_joins _ _ (and_parts _ _ (sym (fits_on r l) ∙ p.0)).0
      (fits_pairs l (every_weaken (λ q. shard_fits q.shard l) (λ q. shard_fits q.shard (r ∷ l)) (λ q. fits_less r l q.shard) l p.1))

  pairs_fit : (l : List Rotation) → pairwise l ≡ true → (s : Shard) → shard_fits s l ≡ true
  unfolding parties_on distinct every ◌and◌
  pairs_fit [] h s = refl
  pairs_fit (r ∷ l) h s = let p = and_parts _ _ h in go p.0 (pairs_fit l p.1) (alike r.shard s)
    where
      go : fits_before b r l ≡ true → ((s : Shard) → shard_fits s l ≡ true) → Alike r.shard s → shard_fits s (r ∷ l) ≡ true
      go f ih (same e t) = rw (← e) (fits_on r l ∙ and_joins _ _ f (ih r.shard))
      go f ih (apart n t) = fits_off s r l t ∙ ih s

  pub pairs_are : rotations_fit b ≡ pairwise b.rotations
  unfolding rotations_fit parties_fit
  pairs_are = go (rotations_fit b) (pairwise b.rotations) (fits_pairs b.rotations) (λ h. every_all _ (λ r. pairs_fit b.rotations h r.shard) b.rotations)
    where
      go : (c d : Bool) → (c ≡ true → d ≡ true) → (d ≡ true → c ≡ true) → c ≡ d
      go true d f g = sym (f refl)
      go false true f g = g refl
      go false false f g = refl
