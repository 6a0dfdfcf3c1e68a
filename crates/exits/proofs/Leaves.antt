-- What leaving comes to: a party, a carved shard, a seat that is filled again.
use Prim.Native.Nat.{ℕ, suc, ◌≤◌, ◌<◌}
use mathlib.Core.Path.{◌≡◌, refl, ap, sym, ◌∙◌}
use mathlib.Core.List.{List, [], ◌∷◌}
use mathlib.Core.Option as maybe
use mathlib.Core.Option.{none}
use mathlib.Core.Bool.{Bool, true, false, cond}
use native.Mathlib.Omega.{arith}
use borrow.Author.Tests.{ltb-true, ltb-false}
use lib.Dec.{ltb}
use lib.ListN.{length, get_or}
use Rattle.types.specs.Numbers.{Shard, Id}
use Rattle.types.specs.Places.{is_pooled, short}
use Rattle.types.specs.declared.ShardId.{ShardId}
use Rattle.types.specs.declared.Epoch.{Epoch}
use Rattle.types.specs.declared.Place.{Place}
use Rattle.types.specs.declared.Place.TheVariants.{Pooled, Seated, Observing, Short, Other}
use Rattle.rules.specs.Lists.{◌and◌, ◌or◌, any}
use Rattle.rules.specs.Table.{is_some, at, holds_at}
use Rattle.rules.specs.Board.{split, merge, Reshape, Rotation, Board, on_rotations}
use Rattle.rules.specs.WellFormed.{well_formed}
use Rattle.rules.specs.Draws.{Drawn, draw_from}
use Rattle.rules.specs.Moves.{pool_of, says, place, quit, take_off, has_party, is_party, drop_first, is_kind, give_up_seat}
use Rattle.rules.specs.Turns.{finished, pool_draw}
use Rattle.rules.specs.Places.{is_scheduled_split, is_carved, leave_seat, leave_from_seat, leave_from}
use Rattle.rules.proofs.KeptTables.{holds_at_lem}
use Rattle.tables.specs.Rows.{first_where, remove_at}
use Rattle.tables.proofs.Keys.{at_is, drop_is_remove_at}
use Rattle.board.specs.Held.{Holds, no_machine, no_reshape}
use Rattle.board.proofs.Keyed.{machines_rise, reshapes_rise}
use Rattle.shards.specs.Rotations.{found_where}
use Rattle.std.specs.Prelude.{Option, Some, None}
use Rattle.moves.proofs.Exiting.{split_unless}
use Rattle.joining.proofs.Struck.{pool_stands}

-- ---- whether a scheduled split stands there, asked at the row that was found

module _ (s : Shard) (b : Board) where
  pub no_reshape_lem : at s b.reshapes ≡ none → false ≡ is_carved s b
  unfolding is_carved holds_at
  no_reshape_lem n = rw (holds_at, n)

  module _ (ok : well_formed b ≡ true) (i : ℕ) (l : i < length b.reshapes) (k : (get_or b.reshapes i no_reshape).key ≡ s) where
    abbrev here : Reshape
    here = (get_or b.reshapes i no_reshape).val

    asked : is_carved s b ≡ (is_kind split here and is_some here.terminal)
    unfolding is_carved is_scheduled_split
    asked = holds_at_lem s _ b.reshapes _ (at_is b.reshapes (reshapes_rise b ok) s i no_reshape l k)

    pub merge_there : is_kind merge here ≡ true → false ≡ is_carved s b
    unfolding ◌and◌
    merge_there e = sym (asked ∙ rw (split_unless here true e))

    pub split_there : is_kind merge here ≡ false → is_some here.terminal ≡ is_carved s b
    unfolding ◌and◌
    split_there e = sym (asked ∙ rw (split_unless here false e))

-- ---- whether it is a party, asked by the first rotation that it is a party of

module _ {A : Type 0} (f : A → Bool) where
  first_inside : (l : List A) → first_where f l < length l → any f l ≡ true
  unfolding any first_where ◌or◌
  first_inside [] h = absurd (omega arith)
  first_inside (x ∷ l) h = go (f x) h (first_inside l)
    where
      go : (c : Bool) → cond c 0 (suc (first_where f l)) < suc (length l) → (first_where f l < length l → any f l ≡ true) → (c or any f l) ≡ true
      go true h ih = refl
      go false h ih = ih (omega arith)

  first_past : (l : List A) → length l ≤ first_where f l → any f l ≡ false
  unfolding any first_where ◌or◌
  first_past [] h = refl
  first_past (x ∷ l) h = go (f x) h (first_past l)
    where
      go : (c : Bool) → suc (length l) ≤ cond c 0 (suc (first_where f l)) → (length l ≤ first_where f l → any f l ≡ false) → (c or any f l) ≡ false
      go true h ih = absurd (omega arith)
      go false h ih = ih (omega arith)

module _ (f : Rotation → Bool) (l : List Rotation) where
  found_at : (k : ℕ) → Some k ≡ found_where f l → (k ≡ first_where f l) × (k < length l)
  found_at k e = go (ltb (first_where f l) (length l)) refl e
    where
      go : (c : Bool) → ltb (first_where f l) (length l) ≡ c → Some k ≡ cond c (Some (first_where f l)) None → (k ≡ first_where f l) × (k < length l)
      go true t e = let q : k ≡ first_where f l = cc in (q, rw q (ltb-true _ _ t))
      go false t e = let z : ◌≡◌ {A = ℕ} 0 1 = cc in absurd (omega arith)

  found_past : ◌≡◌ {A = Option ℕ} None (found_where f l) → length l ≤ first_where f l
  found_past e = go (ltb (first_where f l) (length l)) refl e
    where
      go : (c : Bool) → ltb (first_where f l) (length l) ≡ c → ◌≡◌ {A = Option ℕ} None (cond c (Some (first_where f l)) None) → length l ≤ first_where f l
      go true t e = let z : ◌≡◌ {A = ℕ} 0 1 = cc in absurd (omega arith)
      go false t e = ltb-false _ _ t

module _ (s : Shard) (x : Id) (b : Board) (k : ℕ) (found : Some k ≡ found_where (has_party s x) b.rotations) where
  pub party_row : k < length b.rotations
  party_row = (found_at _ _ k found).1

  abbrev e : k ≡ first_where (has_party s x) b.rotations
  e = (found_at _ _ k found).0

  pub turn_party : (ds : List ℕ) → leave_from_seat s x ds b ≡ finished 0 ds (on_rotations (drop_first (has_party s x)) (leave_seat s x b))
  unfolding leave_from_seat is_party
  turn_party ds = rw (first_inside (has_party s x) b.rotations (rw e at party_row))

  -- the rotations are as they were, so it goes at the row that was found
  pub party_goes : (after : List ℕ) → Holds after (on_rotations (λ t. remove_at t k) (leave_seat s x b)) → Holds after (on_rotations (drop_first (has_party s x)) (leave_seat s x b))
  unfolding leave_seat take_off place quit give_up_seat
  party_goes after h = rw (drop_is_remove_at (has_party s x) b.rotations, ← e) h

module _ (s : Shard) (x : Id) (b : Board) (none_found : ◌≡◌ {A = Option ℕ} None (found_where (has_party s x) b.rotations)) where
  no_party : is_party s x b ≡ false
  unfolding is_party
  no_party = first_past (has_party s x) b.rotations (found_past _ _ none_found)

  pub turn_carved : (ds : List ℕ) → is_carved s b ≡ true → leave_from_seat s x ds b ≡ finished 0 ds (leave_seat s x b)
  unfolding leave_from_seat
  turn_carved ds c = rw (no_party, c)

  pub turn_draws : (ds : List ℕ) → is_carved s b ≡ false → leave_from_seat s x ds b ≡ pool_draw s false (λ y c. c) ds (leave_seat s x b)
  unfolding leave_from_seat
  turn_draws ds c = rw (no_party, c)

pub left_rotations : (s : Shard) (x : Id) (b : Board) → (leave_seat s x b).rotations ≡ b.rotations
unfolding leave_seat take_off place quit give_up_seat
left_rotations s x b = refl

-- ---- a draw on the board as it stands, of one that is not pooled

pub drawn_left : (s : Shard) (x : Id) (b : Board) → well_formed b ≡ true → says is_pooled b x ≡ false → (ds : List ℕ) (d : Drawn (maybe.Option Id)) → draw_from (pool_of b) ds ≡ d → draw_from (pool_of (leave_seat s x b)) ds ≡ d
drawn_left s x b ok u ds d e = rw (pool_stands s x b ok u) e

-- ---- the machine at row i

module _ (b : Board) (i x : ℕ) (k : x ≡ (get_or b.machines i no_machine).key) where
  abbrev its : Place
  its = (get_or b.machines i no_machine).val

  pub seat_not_pooled : well_formed b ≡ true → i < length b.machines → (s : ShardId) (r : Bool) (w : Epoch) → its ≡ Seated s r w → says is_pooled b x ≡ false
  seat_not_pooled ok l s r w e = holds_at_lem x is_pooled b.machines its (at_is b.machines (machines_rise b ok) x i no_machine l (sym k)) ∙ ap is_pooled e

  pub from_seat : (ds : List ℕ) (s : ShardId) (r : Bool) (w : Epoch) → its ≡ Seated s r w → leave_from its (get_or b.machines i no_machine).key ds b ≡ leave_from_seat s.0 x ds b
  unfolding leave_from
  from_seat ds s r w e = rw (e, ← k)

  pub from_watch : (ds : List ℕ) (s : ShardId) (w : Epoch) → its ≡ Observing s w → leave_from its (get_or b.machines i no_machine).key ds b ≡ finished 0 ds (give_up_seat split s.0 x (take_off s.0 short x b))
  unfolding leave_from
  from_watch ds s w e = rw (e, ← k)

  pub from_elsewhere : (ds : List ℕ) → ((s : ShardId) (r : Bool) (w : Epoch) → its ≡ Seated s r w → ⊥) → ((s : ShardId) (w : Epoch) → its ≡ Observing s w → ⊥)
      → leave_from its (get_or b.machines i no_machine).key ds b ≡ finished 0 ds (place (get_or b.machines i no_machine).key short b)
  unfolding leave_from
  from_elsewhere ds = go its
    where
      go : (p : Place) → ((s : ShardId) (r : Bool) (w : Epoch) → p ≡ Seated s r w → ⊥) → ((s : ShardId) (w : Epoch) → p ≡ Observing s w → ⊥)
          → leave_from p (get_or b.machines i no_machine).key ds b ≡ finished 0 ds (place (get_or b.machines i no_machine).key short b)
      go Pooled n o = refl
      go (Seated s r w) n o = absurd (n s r w refl)
      go (Observing s w) n o = absurd (o s w refl)
      go Short n o = refl
      go (Other m) n o = refl
