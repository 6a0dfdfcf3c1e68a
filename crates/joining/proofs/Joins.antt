-- A committee that takes one member more: what is asked before, and the board after, as the code has them at the shard's row.
use Prim.Native.Nat.{ℕ, ◌+◌, ◌≤◌, ◌<◌}
use mathlib.Core.Path.{◌≡◌, refl, ap, sym, ◌∙◌}
use mathlib.Core.List.{List, [], ◌∷◌, ◌++◌}
use mathlib.Core.Option.{Option, none, some}
use mathlib.Core.Bool.{Bool, true, false, true≢false}
use native.Mathlib.Omega.{arith}
use native.Mathlib.Numerals.{add-one}
use borrow.Author.Tests.{ltb-true, ltb-false, le-ltb}
use lib.Dec.{eqb, leb, ltb}
use lib.ListN.{length, get_or}
use Rattle.types.specs.Numbers.{Id}
use Rattle.rules.specs.Lists.{◌and◌, ◌or◌, every, any, has}
use Rattle.rules.specs.Table.{Entry, entry, is_some, at, stands}
use Rattle.rules.specs.Board.{Board, most_committees, most_members, on_committees}
use Rattle.rules.specs.Moves.{members_of, may_join, join}
use Rattle.rules.proofs.Counts.{Alike, same, apart, alike}
use Rattle.rules.proofs.Tests.{and_parts, le_of, eq_of}
use Rattle.tables.specs.Rows.{Rising, key_of, place_of, insert_at}
use Rattle.tables.proofs.Keys.{first_most, at_is, at_is_none}
use Rattle.board.specs.Held.{Holds, no_committee}
use Rattle.board.specs.Leaves.{change_at}
use Rattle.board.proofs.Fitting.{held_as, insert_at_lem, insert_length}
use Rattle.board.proofs.Moves.{members_at_lem, join_at, join_none}
use Rattle.board.proofs.Moves as moves
use Rattle.joining.specs.Stands.{stands_at}

-- ---- a committee that is found at row j

module _ (b : Board) (s j : ℕ) where
  pub stands_row : stands_at j s b ≡ true → (j < length b.committees) × ((get_or b.committees j no_committee).key ≡ s)
  unfolding stands_at
  stands_row q = let p = and_parts _ _ q in (ltb-true _ _ p.0, eq_of _ _ p.1)

  pub none_past : length b.committees ≤ j → false ≡ stands_at j s b
  unfolding stands_at ◌and◌
  none_past l = rw (le-ltb j (length b.committees) l)

-- what 11 asked: it has room
pub joins_room : (b : Board) (s x j : ℕ) → Rising key_of b.committees → j < length b.committees → (get_or b.committees j no_committee).key ≡ s → may_join s (x ∷ []) b ≡ true
    → length (get_or b.committees j no_committee).val < most_members
unfolding may_join
joins_room b s x j r l e m =
    let f : leb (length (members_of s b) + 1) most_members ≡ true = (and_parts _ _ (and_parts _ _ m).1).1 in
    omega (arith, ap length (members_at_lem b s j r l e), le_of (length (members_of s b) + 1) most_members f)

-- ---- row j, where the shard's committee stands or goes

module _ (b : Board) (s : ℕ) (r : Rising key_of b.committees) (j : ℕ) (je : j ≡ place_of key_of s b.committees) where
  abbrev row : Entry (List Id)
  row = get_or b.committees j no_committee

  pub place_most : j ≤ length b.committees
  place_most = omega (arith, je, first_most (λ (e : Entry (List Id)). leb s e.key) b.committees)

  -- the row of a committee that is opened
  pub new_within : j < length (insert_at b.committees j (entry s []))
  new_within = omega (arith, place_most, insert_length b.committees j (entry s []) place_most)

  pub new_fits : length (get_or (insert_at b.committees j (entry s [])) j no_committee).val < most_members
  new_fits = rw (insert_at_lem b.committees j (entry s []) no_committee place_most) (omega arith)

  -- ---- whether it stands

  none_if : (j < length b.committees → row.key ≡ s → ⊥) → at s b.committees ≡ none
  none_if z = at_is_none b.committees r s no_committee (rw je at z)

  stands_past : length b.committees ≤ j → false ≡ stands s b.committees
  unfolding stands is_some
  stands_past l = sym (ap is_some (none_if (λ h e. omega arith)))

  stands_here : j < length b.committees → eqb row.key s ≡ stands s b.committees
  unfolding stands is_some
  stands_here l = go (alike row.key s)
    where
      go : Alike row.key s → eqb row.key s ≡ is_some (at s b.committees)
      go (same p u) = u ∙ sym (ap is_some (at_is b.committees r s j no_committee l p))
      go (apart p u) = u ∙ sym (ap is_some (none_if (λ h q. p q)))

  pub stands_is : stands_at j s b ≡ stands s b.committees
  unfolding stands_at ◌and◌
  stands_is = go (ltb j (length b.committees)) refl
    where
      go : (c : Bool) → ltb j (length b.committees) ≡ c → (c and eqb row.key s) ≡ stands s b.committees
      go true l = stands_here (ltb-true _ _ l)
      go false l = stands_past (ltb-false _ _ l)

  module _ (q : stands s b.committees ≡ true) where
    pub row_here : (j < length b.committees) × (row.key ≡ s)
    row_here = stands_row b s j (stands_is ∙ q)

    pub members_are : members_of s b ≡ row.val
    members_are = members_at_lem b s j r row_here.0 row_here.1

  module _ (q : stands s b.committees ≡ false) where
    none_there : at s b.committees ≡ none
    unfolding stands is_some
    none_there = go (at s b.committees) q
      where
        go : (o : Option (List Id)) → is_some o ≡ false → o ≡ none
        go none y = refl
        go (some v) y = absurd (true≢false y)

    pub members_none : members_of s b ≡ []
    members_none = moves.members_none b s none_there

  -- ---- what is asked before

  module _ (x : ℕ) where
    module _ (q : stands s b.committees ≡ true) where
      pub join_member : has x row.val ≡ true → false ≡ may_join s (x ∷ []) b
      unfolding may_join every ◌and◌ ◌or◌
      join_member h = rw (q, members_are q, h)

      pub join_room : has x row.val ≡ false → ltb (length row.val) most_members ≡ may_join s (x ∷ []) b
      unfolding may_join every ◌and◌ ◌or◌
      join_room h = rw (q, members_are q, h, add-one)

      pub join_fits : may_join s (x ∷ []) b ≡ true → length row.val < most_members
      join_fits m = joins_room b s x j r (row_here q).0 (row_here q).1 m

    module _ (q : stands s b.committees ≡ false) where
      pub join_opens : ltb (length b.committees) most_committees ≡ may_join s (x ∷ []) b
      unfolding may_join every any has ◌and◌ ◌or◌
      join_opens = rw (q, members_none q) (go (ltb (length b.committees) most_committees))
        where
          go : (c : Bool) → c ≡ (c and true)
          go true = refl
          go false = refl

      pub opens_fits : may_join s (x ∷ []) b ≡ true → length b.committees < most_committees
      opens_fits m = ltb-true _ _ (join_opens ∙ m)

    -- no row is left: then none may join
    pub join_past : may_join s (x ∷ []) b ≡ true → length b.committees ≤ most_committees → most_committees ≤ j → ⊥
    join_past m l h = omega (arith, place_most, opens_fits (sym (stands_past (omega arith))) m)

    -- ---- the board after

    pub joined_row : stands s b.committees ≡ true → (after : List ℕ) → Holds after (on_committees (change_at no_committee j (λ l. l ++ (x ∷ []))) b) → Holds after (join s x b)
    joined_row q after h = held_as after _ _ (sym (join_at b s j r (row_here q).0 (row_here q).1 x)) h

    pub joined_new : stands s b.committees ≡ false → (after : List ℕ)
        → Holds after (on_committees (λ t. change_at no_committee j (λ l. l ++ (x ∷ [])) (insert_at t j (entry s []))) b) → Holds after (join s x b)
    joined_new q after h = held_as after _ _ (sym (rw (sym je) at (join_none b s (none_there q) x r))) h
