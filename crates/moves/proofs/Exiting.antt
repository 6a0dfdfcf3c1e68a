-- The moves off a shard, by key, as the code has them at the row that it found.
use Prim.Native.Nat.{ℕ, ◌<◌}
use mathlib.Core.Path.{◌≡◌, refl, ap, sym, ◌∙◌}
use mathlib.Core.List.{List}
use mathlib.Core.Option.{none}
use mathlib.Core.Bool.{Bool, true, false, not, beq}
use lib.ListN.{length, get_or, set}
use Rattle.types.specs.Numbers.{Shard, Id}
use Rattle.types.specs.declared.Place.{Place}
use Rattle.rules.specs.Lists.{strike}
use Rattle.rules.specs.Table.{entry, at}
use Rattle.rules.specs.Board.{Reshape, Kind, split, merge, Board, on_machines, on_committees, on_reshapes}
use Rattle.rules.specs.WellFormed.{well_formed}
use Rattle.rules.specs.Moves.{place, quit, is_kind, with_seats, give_up_seat}
use Rattle.tables.specs.Rows.{remove_at}
use Rattle.tables.proofs.Keys.{update_none}
use Rattle.board.specs.Held.{Holds, no_machine, no_committee, no_reshape, no_seat}
use Rattle.board.specs.Leaves.{change_at}
use Rattle.board.proofs.Fitting.{held_as}
use Rattle.board.proofs.Keyed.{machines_rise, committees_rise, reshapes_rise, seats_rise}
use Rattle.board.proofs.Moves.{place_at, place_none, quit_at, quit_none}
use Rattle.reshapes.specs.Changes.{kind_of}
use Rattle.reshapes.proofs.SeatMoves.{seat_given_up, seat_kept, seat_missing}

-- a reshape's kind, asked with a flag
pub kind_split : (merging : Bool) (r : Reshape) → merging ≡ false → not (is_kind merge r) ≡ is_kind (kind_of merging) r
unfolding is_kind
kind_split merging r e = rw e (go r.kind)
  where
    go : (k : Kind) → not (elim k [ split ↦ false | merge ↦ true ]) ≡ elim k [ split ↦ true | merge ↦ false ]
    go split = refl
    go merge = refl

pub kind_asked : (merging : Bool) (r : Reshape) → beq (is_kind merge r) merging ≡ is_kind (kind_of merging) r
kind_asked true r = go (is_kind merge r)
  where
    go : (c : Bool) → beq c true ≡ c
    go true = refl
    go false = refl
kind_asked false r = go (is_kind merge r) ∙ kind_split false r refl
  where
    go : (c : Bool) → beq c false ≡ not c
    go true = refl
    go false = refl

pub split_unless : (r : Reshape) (m : Bool) → is_kind merge r ≡ m → is_kind split r ≡ not m
split_unless r m e = sym (kind_split false r refl) ∙ ap not e

pub kind_told : (r : Reshape) (merging : Bool) → merging ≡ is_kind merge r → kind_of merging ≡ r.kind
unfolding is_kind
kind_told r merging e = rw e (go r.kind)
  where
    go : (k : Kind) → kind_of (elim k [ split ↦ false | merge ↦ true ]) ≡ k
    go split = refl
    go merge = refl

module _ (b : Board) (ok : well_formed b ≡ true) (after : List ℕ) (x : Id) where
  -- ---- its place, at row i

  module _ (move : Place → Place) where
    pub no_record : at x b.machines ≡ none → Holds after b → Holds after (place x move b)
    no_record n h = held_as after _ _ (sym (place_none b x move n)) h

    pub record_placed : (i : ℕ) → i < length b.machines → (get_or b.machines i no_machine).key ≡ x → (p : Place) → p ≡ move (get_or b.machines i no_machine).val
        → Holds after (on_machines (λ t. set t i (entry x p)) b) → Holds after (place x move b)
    record_placed i l k p e h = rw (place_at b x move i (machines_rise b ok) l k, k, ← e) h

  -- ---- its committee, at row j

  module _ (s : Shard) where
    pub no_committee_lem : at s b.committees ≡ none → Holds after b → Holds after (quit s x b)
    no_committee_lem n h = held_as after _ _ (sym (quit_none b s n x)) h

    pub member_struck : (j : ℕ) → j < length b.committees → (get_or b.committees j no_committee).key ≡ s → Holds after (on_committees (change_at no_committee j (strike x)) b) → Holds after (quit s x b)
    member_struck j l k h = held_as after _ _ (sym (quit_at b s j (committees_rise b ok) l k x)) h

  -- ---- its seat, at row n of the reshape at row i

  module _ (k : Kind) (t : Shard) where
    pub no_reshape_lem : at t b.reshapes ≡ none → Holds after b → Holds after (give_up_seat k t x b)
    unfolding give_up_seat
    no_reshape_lem n h = rw (update_none t _ b.reshapes n) h

    module _ (i : ℕ) (l : i < length b.reshapes) (e : (get_or b.reshapes i no_reshape).key ≡ t) where
      abbrev here : Reshape
      here = (get_or b.reshapes i no_reshape).val

      pub other_kind : is_kind k here ≡ false → Holds after b → Holds after (give_up_seat k t x b)
      other_kind c h = held_as after _ _ (sym (seat_kept b t i (reshapes_rise b ok) l e k x c)) h

      module _ (c : is_kind k here ≡ true) where
        pub no_seat_lem : at x here.seats ≡ none → Holds after b → Holds after (give_up_seat k t x b)
        no_seat_lem n h = held_as after _ _ (sym (seat_missing b t i (reshapes_rise b ok) l e k x c n)) h

        pub seat_closed : (n : ℕ) → n < length here.seats → (get_or here.seats n no_seat).key ≡ x → Holds after (on_reshapes (change_at no_reshape i (with_seats (λ y. remove_at y n))) b)
            → Holds after (give_up_seat k t x b)
        seat_closed n m q h = held_as after _ _ (sym (seat_given_up b t i (reshapes_rise b ok) l e x n (seats_rise b ok i l) m q k c)) h
