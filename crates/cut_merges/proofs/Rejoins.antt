-- The keepers join the parent: each way out of one turn, and the committee on its way.
use Prim.Native.Nat.{ℕ, ◌+◌, ◌≤◌, ◌<◌}
use mathlib.Core.Path.{◌≡◌, refl, ap, sym, subst, ◌∙◌}
use mathlib.Core.Logic.{⊎_elim}
use mathlib.Core.List.{List, [], ◌∷◌}
use mathlib.Core.Option.{Option, none, some}
use mathlib.Core.Bool.{Bool, true, false, cond, ◌||◌}
use native.Mathlib.Omega.{arith}
use lib.ListN.{length, get_or, drop}
use Rattle.types.specs.Numbers.{Shard, Id}
use Rattle.types.specs.Shards.{left_of, right_of}
use Rattle.types.specs.Places.{is_seated_on, kept_on}
use Rattle.types.specs.declared.Place.{Place}
use Rattle.rules.specs.Lists.{◌or◌}
use Rattle.rules.specs.Table.{Table, at, keys_of}
use Rattle.rules.specs.Board.{Seat, Reshape, Board, most_seats, on_reshapes}
use Rattle.rules.specs.WellFormed.{is_shard, well_formed}
use Rattle.rules.specs.Moves.{place, join, may_join, put_on, for_all}
use Rattle.rules.specs.Cut.{rejoin}
use Rattle.rules.proofs.Tests.{by_cases, or_cases}
use Rattle.rules.proofs.Turns.{for_all_keeps}
use Rattle.rules.proofs.KeptTables.{length_keys_where}
use Rattle.rules.proofs.KeptBoard.{Good}
use Rattle.rules.proofs.KeptCut.{Settling, settling, may_arrive, rejoin_keeps}
use Rattle.tables.specs.Rows.{Rising, key_of}
use Rattle.tables.proofs.Bools.{or_is}
use Rattle.tables.proofs.Keys.{at_is}
use Rattle.board.specs.Held.{Holds, no_machine, no_reshape, no_seat}
use Rattle.board.proofs.Fitting.{held_as}
use Rattle.board.proofs.Keyed.{machines_rise}
use Rattle.pool.proofs.Pools.{keys_none, keys_here}
use Rattle.arriving.specs.Coming.{reshape_in, MayCome}
use Rattle.arriving.proofs.Comes.{joins_may, not_both, comes_at, put_as, put_elsewhere}
use Rattle.arriving.proofs.Lists.{for_all_elsewhere}

-- ---- one keeper

-- on a child, as the code asks it
abbrev on_child : Shard → Place → Bool
on_child t p = is_seated_on (left_of t) p or is_seated_on (right_of t) p

pub on_child_lem : (t : Shard) (p : Place) (l r : Bool) → l ≡ is_seated_on (left_of t) p → r ≡ is_seated_on (right_of t) p → (l || r) ≡ on_child t p
on_child_lem t p l r e f = or_is l r ∙ rw (e, f)

module _ (b : Board) (ok : well_formed b ≡ true) (t : Shard) (x : Id) where
  module _ (row : ℕ) (l : row < length b.machines) (s : (get_or b.machines row no_machine).key ≡ x) where
    abbrev here : Place
    here = (get_or b.machines row no_machine).val

    pub may_rejoin : 1 ≤ t → MayCome t x b → on_child t here ≡ true → may_join t ((get_or b.machines row no_machine).key ∷ []) b ≡ true
    may_rejoin pos m y =
        comes_at b ok t x row l s m
        (⊎_elim (λ u. not_both t (left_of t) here (omega arith) u) (λ u. not_both t (right_of t) here (omega arith) u) (or_cases (is_seated_on (left_of t) here) (is_seated_on (right_of t) here) y))

  module _ (after : List ℕ) (keepers : Table Seat) where
    pub unknown : at x b.machines ≡ none → Holds after b → Holds after (rejoin t keepers x b)
    unfolding rejoin
    unknown n h = rw (n, rejoin) h

    module _ (row : ℕ) (l : row < length b.machines) (s : (get_or b.machines row no_machine).key ≡ x) (k : ℕ) (m : k < length keepers) (r : Rising key_of keepers) (e : (get_or keepers k no_seat).key ≡ x) where
      abbrev seat : Seat
      seat = (get_or keepers k no_seat).val

      there : at x b.machines ≡ some (here row l s)
      there = at_is b.machines (machines_rise b ok) x row no_machine l s

      seat_there : at x keepers ≡ some seat
      seat_there = at_is keepers r x k no_seat m e

      pub elsewhere : on_child t (here row l s) ≡ false → Holds after b → Holds after (rejoin t keepers x b)
      unfolding rejoin
      elsewhere n h = rw (there, rejoin, seat_there, n) h

      pub rejoins : on_child t (here row l s) ≡ true → (p was : Place) (ready : Bool) → was ≡ here row l s → ready ≡ seat.ready → p ≡ kept_on t ready was
          → Holds after (put_on t (λ q. p) (get_or b.machines row no_machine).key b) → Holds after (rejoin t keepers x b)
      unfolding rejoin
      rejoins y p was ready ew er v h =
          let u : p ≡ kept_on t seat.ready (here row l s) = rw (ew, er) at v in
          rw (there, rejoin, seat_there, y) (put_as b ok t x (kept_on t seat.ready) p row l s u after h)

-- ---- what rejoining leaves alone

abbrev Same : Board → Board → Type 0
Same b d = d.reshapes ≡ b.reshapes

module _ (t : Shard) (keepers : Table Seat) where
  rejoin_reshapes : (x : Id) (b : Board) → Same b (rejoin t keepers x b)
  unfolding rejoin put_on join place
  rejoin_reshapes x b = go (at x b.machines)
    where
      look : (p : Place) (o : Option Seat) → Same b (elim o [ none ↦ b | some q ↦ cond (on_child t p) (put_on t (kept_on t q.ready) x b) b ])
      look p none = refl
      look p (some q) = by_cases (Same b) (on_child t p) _ _ (λ e. refl) (λ e. refl)

      go : (o : Option Place) → Same b (elim o [
        | none ↦ b
        | some p ↦ elim (at x keepers) [ none ↦ b | some q ↦ cond (on_child t p) (put_on t (kept_on t q.ready) x b) b ]
      ])
      go none = refl
      go (some p) = look p (at x keepers)

  pub all_reshapes : (l : List Id) (b : Board) → Same b (for_all (rejoin t keepers) l b)
  all_reshapes l b = for_all_keeps (Same b) (rejoin t keepers) (λ x d e. rejoin_reshapes x d ∙ e) l b refl

  module _ (f : Table Reshape → Table Reshape) where
    rejoin_elsewhere : (x : Id) (b : Board) → rejoin t keepers x (on_reshapes f b) ≡ on_reshapes f (rejoin t keepers x b)
    unfolding rejoin
    rejoin_elsewhere x b = go (at x b.machines)
      where
        one : (q : Bool) (move : Place → Place) → cond q (put_on t move x (on_reshapes f b)) (on_reshapes f b) ≡ on_reshapes f (cond q (put_on t move x b) b)
        one true move = put_elsewhere t f move x b
        one false move = refl

        look : (p : Place) (o : Option Seat) → elim o [ none ↦ on_reshapes f b | some q ↦ cond (on_child t p) (put_on t (kept_on t q.ready) x (on_reshapes f b)) (on_reshapes f b) ]
            ≡ on_reshapes f (elim o [ none ↦ b | some q ↦ cond (on_child t p) (put_on t (kept_on t q.ready) x b) b ])
        look p none = refl
        look p (some q) = one (on_child t p) (kept_on t q.ready)

        go : (o : Option Place) → elim o [
          | none ↦ on_reshapes f b
          | some p ↦ elim (at x keepers) [ none ↦ on_reshapes f b | some q ↦ cond (on_child t p) (put_on t (kept_on t q.ready) x (on_reshapes f b)) (on_reshapes f b) ]
        ] ≡ on_reshapes f (elim o [
          | none ↦ b
          | some p ↦ elim (at x keepers) [ none ↦ b | some q ↦ cond (on_child t p) (put_on t (kept_on t q.ready) x b) b ]
        ])
        go none = refl
        go (some p) = look p (at x keepers)

    -- the order does not matter: the row may go before or after
    pub all_elsewhere : (l : List Id) (b : Board) → for_all (rejoin t keepers) l (on_reshapes f b) ≡ on_reshapes f (for_all (rejoin t keepers) l b)
    all_elsewhere = for_all_elsewhere f (rejoin t keepers) rejoin_elsewhere

-- ---- k keepers have had their turn

pub record Joined (t : Shard) (i : ℕ) (b : Board) (k : ℕ) (ws : List ℕ) : Type 0 where
  pub board : Board
  pub held : Holds ws board
  pub way : Settling b t (keys_of (drop k (reshape_in i b).seats)) board
  pub same : board.reshapes ≡ b.reshapes
  pub whole : for_all (rejoin t (reshape_in i b).seats) (keys_of (drop k (reshape_in i b).seats)) board ≡ for_all (rejoin t (reshape_in i b).seats) (keys_of (reshape_in i b).seats) b

module _ (t : Shard) (i : ℕ) (b : Board) where
  abbrev seats : Table Seat
  seats = (reshape_in i b).seats

  pub none_joined : (ws : List ℕ) → Holds ws b → Good b → is_shard t ≡ true → at t b.committees ≡ some [] → length seats ≤ most_seats → Joined t i b 0 ws
  unfolding keys_of
  none_joined ws h g ok e n = record {
    board = b;
    held = h;
    way = settling t (keys_of seats) g ok e (omega (arith, length_keys_where (λ (q : Seat). true) seats));
    same = refl;
    whole = refl;
  }

  module _ (k : ℕ) (ws : List ℕ) (u : Joined t i b k ws) where
    same_seats : (reshape_in i u.board).seats ≡ seats
    same_seats = ap (λ (z : Table Reshape). (get_or z i no_reshape).val.seats) u.same

    pub row_stays : i < length b.reshapes → i < length u.board.reshapes
    row_stays l = rw u.same l

    pub seats_stay : k < length seats → k < length (reshape_in i u.board).seats
    seats_stay l = subst (λ (z : Table Seat). k < length z) (sym same_seats) l

    module _ (l : k < length seats) where
      next_key : keys_of (drop k seats) ≡ (get_or seats k no_seat).key ∷ keys_of (drop (k + 1) seats)
      unfolding keys_of
      next_key = keys_here (λ (q : Seat). true) seats k no_seat l refl

      coming : Settling b t ((get_or seats k no_seat).key ∷ keys_of (drop (k + 1) seats)) u.board
      coming = rw next_key at u.way

      pub may_come : MayCome t (get_or (reshape_in i u.board).seats k no_seat).key u.board
      may_come = subst (λ (z : Table Seat). MayCome t (get_or z k no_seat).key u.board) (sym same_seats) (λ p a n. joins_may u.way.good (may_arrive _ _ p a n coming))

      pub one_joined : 1 ≤ t → (after : List ℕ) → Holds after (rejoin t (reshape_in i u.board).seats (get_or (reshape_in i u.board).seats k no_seat).key u.board) → Joined t i b (k + 1) after
      unfolding for_all
      one_joined pos after h = record {
        board = rejoin t seats (get_or seats k no_seat).key u.board;
        held = subst (λ (z : Table Seat). Holds after (rejoin t z (get_or z k no_seat).key u.board)) same_seats h;
        way = rejoin_keeps b t seats pos (get_or seats k no_seat).key (keys_of (drop (k + 1) seats)) u.board coming;
        same = rejoin_reshapes t seats (get_or seats k no_seat).key u.board ∙ u.same;
        whole = ap (λ (z : List Id). for_all (rejoin t seats) z u.board) (sym next_key) ∙ u.whole;
      }

    pub all_joined : length seats ≤ k → Holds ws (for_all (rejoin t seats) (keys_of seats) b)
    unfolding for_all keys_of
    all_joined l = held_as ws _ _ (ap (λ (z : List Id). for_all (rejoin t seats) z u.board) (sym (keys_none (λ (q : Seat). true) seats k l)) ∙ u.whole) u.held
