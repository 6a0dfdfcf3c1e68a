-- A child's members who are no keepers go to the pool, one after another; their committees stand all along.
use Prim.Native.Nat.{ℕ, ◌+◌, ◌≤◌, ◌<◌}
use mathlib.Core.Path.{◌≡◌, refl, ap, sym, ◌∙◌}
use mathlib.Core.List.{List, [], ◌∷◌}
use mathlib.Core.Bool.{Bool, true, false, cond, not}
use native.Mathlib.Numerals.{add-one}
use lib.ListN.{length, get_or, drop, drop_of_length-le}
use lib.Seq.{drop-cons}
use Rattle.types.specs.Numbers.{Shard, Id}
use Rattle.types.specs.Places.{pooled}
use Rattle.rules.specs.Lists.{keep}
use Rattle.rules.specs.Table.{Table, stands}
use Rattle.rules.specs.Board.{Seat, Reshape, Board, most_members}
use Rattle.rules.specs.Moves.{members_of, place, for_all}
use Rattle.rules.proofs.Tests.{by_cases}
use Rattle.rules.proofs.KeptBoard.{Good, of_good}
use Rattle.rules.proofs.KeptMoves.{keeps_pooled, good_place_lem, members_good}
use Rattle.rules.proofs.KeptMoves.{members_at_lem as known-members}
use Rattle.tables.proofs.Keys.{at_is}
use Rattle.board.specs.Held.{Holds, no_committee, no_reshape}
use Rattle.board.proofs.Fitting.{held_as}
use Rattle.board.proofs.Keyed.{committees_rise}
use Rattle.arriving.specs.Coming.{reshape_in}
use Rattle.cut_merges.specs.Merged.{pooled_unless}

-- ---- one member

module _ (b : Board) (after : List ℕ) (keepers : Table Seat) (x y : Id) (i : y ≡ x) where
  pub keeper_stays : stands y keepers ≡ true → Holds after b → Holds after (pooled_unless keepers x b)
  keeper_stays s h = rw (← i, s) h

  pub other_goes : stands y keepers ≡ false → Holds after (place y pooled b) → Holds after (pooled_unless keepers x b)
  other_goes n h = rw (← i, n) h

-- ---- those who are no keepers

pub only_others : (keepers : Table Seat) (l : List Id) (b : Board) → for_all (pooled_unless keepers) l b ≡ for_all (λ x. place x pooled) (keep (λ x. not (stands x keepers)) l) b
unfolding for_all keep
only_others keepers [] b = refl
only_others keepers (x ∷ l) b = go (stands x keepers) (only_others keepers l b) (only_others keepers l (place x pooled b))
  where
    go : (q : Bool) → for_all (pooled_unless keepers) l b ≡ for_all (λ y. place y pooled) (keep (λ y. not (stands y keepers)) l) b → for_all (pooled_unless keepers) l (place x pooled b) ≡ for_all (λ y. place y pooled) (keep (λ y. not (stands y keepers)) l) (place x pooled b)
        → for_all (pooled_unless keepers) l (cond q b (place x pooled b)) ≡ for_all (λ y. place y pooled) (cond (not q) (x ∷ keep (λ y. not (stands y keepers)) l) (keep (λ y. not (stands y keepers)) l)) b
    go true stays goes = stays
    go false stays goes = goes

-- ---- what it leaves alone

pub record Beside (b d : Board) : Type 0 where
  pub good : Good d
  pub committees : d.committees ≡ b.committees
  pub reshapes : d.reshapes ≡ b.reshapes

pub beside_start : (b : Board) → Good b → Beside b b
beside_start b g = record { good = g; committees = refl; reshapes = refl }

beside_one : (keepers : Table Seat) (x : Id) (b d : Board) → Beside b d → Beside b (pooled_unless keepers x d)
unfolding place
beside_one keepers x b d h =
    by_cases (Beside b) (stands x keepers) d (place x pooled d) (λ e. h)
    (λ e. record { good = good_place_lem x pooled keeps_pooled h.good; committees = h.committees; reshapes = h.reshapes })

pub beside_all : (keepers : Table Seat) (l : List Id) (b d : Board) → Beside b d → Beside b (for_all (pooled_unless keepers) l d)
unfolding for_all
beside_all keepers [] b d h = h
beside_all keepers (x ∷ l) b d h = beside_all keepers l b (pooled_unless keepers x d) (beside_one keepers x b d h)

-- ---- k members have had their turn

pub record Drained (i j : ℕ) (b : Board) (k : ℕ) (ws : List ℕ) : Type 0 where
  pub board : Board
  pub held : Holds ws board
  pub beside : Beside b board
  pub whole : for_all (pooled_unless (reshape_in i b).seats) (drop k (get_or b.committees j no_committee).val) board
      ≡ for_all (pooled_unless (reshape_in i b).seats) (get_or b.committees j no_committee).val b

module _ (i j : ℕ) (b : Board) where
  abbrev keepers : Table Seat
  keepers = (reshape_in i b).seats

  abbrev members : List Id
  members = (get_or b.committees j no_committee).val

  pub none_asked : (ws : List ℕ) → Holds ws b → Good b → Drained i j b 0 ws
  none_asked ws h g = record { board = b; held = h; beside = beside_start b g; whole = refl }

  module _ (k : ℕ) (ws : List ℕ) (u : Drained i j b k ws) where
    pub row_stays : i < length b.reshapes → i < length u.board.reshapes
    row_stays l = rw u.beside.reshapes l

    pub committee_stays : j < length b.committees → j < length u.board.committees
    committee_stays l = rw u.beside.committees l

    pub members_stay : k < length members → k < length (get_or u.board.committees j no_committee).val
    members_stay l = rw u.beside.committees l

    pub one_asked : k < length members → (after : List ℕ)
        → Holds after (pooled_unless (reshape_in i u.board).seats (get_or (get_or u.board.committees j no_committee).val k 0) u.board) → Drained i j b (k + 1) after
    unfolding for_all
    one_asked l after h =
        let x = get_or members k 0 in
        let seats : (reshape_in i u.board).seats ≡ keepers = ap (λ (z : Table Reshape). (get_or z i no_reshape).val.seats) u.beside.reshapes in
        let one : get_or (get_or u.board.committees j no_committee).val k 0 ≡ x = ap (λ (z : Table (List Id)). get_or (get_or z j no_committee).val k 0) u.beside.committees in
        record {
          board = pooled_unless keepers x u.board;
          held = held_as after _ _ (ap (λ (z : Table Seat). pooled_unless z (get_or (get_or u.board.committees j no_committee).val k 0) u.board) seats ∙ ap (λ (z : Id). pooled_unless keepers z u.board) one) h;
          beside = beside_one keepers x b u.board u.beside;
          whole = rw (add-one k) (sym (ap (λ (z : List Id). for_all (pooled_unless keepers) z u.board) (drop-cons members k 0 l)) ∙ u.whole);
        }

    pub all_asked : (s : Shard) → members_of s b ≡ members → length members ≤ k → Holds ws (for_all (pooled_unless keepers) (members_of s b) b)
    unfolding for_all
    all_asked s e l =
        held_as ws _ _
        (ap (λ (z : List Id). for_all (pooled_unless keepers) z u.board) (sym (drop_of_length-le members {i = k} l)) ∙ u.whole
        ∙ ap (λ (z : List Id). for_all (pooled_unless keepers) z b) (sym e)) u.held

pub nobody : (keepers : Table Seat) (l : List Id) (b : Board) (after : List ℕ) → l ≡ [] → Holds after b → Holds after (for_all (pooled_unless keepers) l b)
unfolding for_all
nobody keepers l b after e h = rw e h

pub members_room : (b : Board) → Good b → (j : ℕ) → j < length b.committees → length (get_or b.committees j no_committee).val ≤ most_members
members_room b g j l =
    let e = at_is b.committees (committees_rise b (of_good g)) _ j no_committee l refl in
    rw (known-members _ b _ e) at (members_good g (get_or b.committees j no_committee).key).room
