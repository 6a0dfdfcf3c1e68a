-- A reshape opened, and seats put one after another, as the code does both at a row.
use Prim.Native.Nat.{ℕ, suc, ◌+◌, ◌≤◌, ◌<◌, zero-le}
use mathlib.Core.Path.{◌≡◌, refl, ap, sym, ◌∙◌}
use mathlib.Core.List.{List, [], ◌∷◌}
use mathlib.Core.Option.{none}
use mathlib.Core.Bool.{true}
use native.Mathlib.Omega.{arith}
use native.Mathlib.Numerals.{add-one}
use lib.ListN.{length, get_or, set, drop, length-set, drop_of_length-le}
use lib.Seq.{drop-cons, set-get_or, set-set, get_or-set_same}
use Rattle.types.specs.Numbers.{Shard, Id}
use Rattle.rules.specs.Table.{Entry, entry, Table, at, put}
use Rattle.rules.specs.Board.{Kind, Seat, Reshape, Board, most_seats, on_reshapes, epoch_of}
use Rattle.rules.specs.WellFormed.{rising, well_formed}
use Rattle.rules.specs.Moves.{with_seats, new_seat}
use Rattle.rules.specs.Reshapes.{new_reshape, seat_all}
use Rattle.rules.proofs.Tables.{From-put}
use Rattle.rules.proofs.Tests.{from_rising, rising_table}
use Rattle.rules.proofs.KeptTables.{length_put}
use Rattle.tables.specs.Rows.{Rising, key_of, place_of, insert_at}
use Rattle.tables.proofs.Keys.{first_most, at_is_none, put_is_insert_at, put_is_set}
use Rattle.board.specs.Held.{Holds, no_reshape, no_seat}
use Rattle.board.proofs.Fitting.{insert_at_lem, set_insert, insert_length, held_as}
use Rattle.board.proofs.Keyed.{reshapes_rise}
use Rattle.reshapes.specs.Changes.{newly_admitted}
use Rattle.reshapes.proofs.SeatMoves.{seats_in_row}
use Rattle.admissions.specs.Seated.{row_for, opened, with_seats_at}

-- ---- one seat, at the place of its id

module _ (b : Board) (i : ℕ) (ws : List ℕ) (seats : Table Seat) (rise : Rising key_of seats) (x : Id) (v : Seat) (k : ℕ) (is : k ≡ place_of key_of x seats) where
  made : at x seats ≡ none → Holds ws (with_seats_at i (insert_at seats k (entry x v)) b) → Holds ws (with_seats_at i (put x v seats) b)
  made n h = rw (put_is_insert_at seats rise x v n, ← is) h

  pub seat_at_end : length seats ≤ k → Holds ws (with_seats_at i (insert_at seats k (entry x v)) b) → Holds ws (with_seats_at i (put x v seats) b)
  seat_at_end l h = made (at_is_none seats rise x no_seat (λ w e. omega arith)) h

  pub seat_between : ((get_or seats k no_seat).key ≡ x → ⊥) → Holds ws (with_seats_at i (insert_at seats k (entry x v)) b) → Holds ws (with_seats_at i (put x v seats) b)
  seat_between n h = made (at_is_none seats rise x no_seat (λ w e. n (rw is e))) h

  pub seat_again : k < length seats → (get_or seats k no_seat).key ≡ x → Holds ws (with_seats_at i (set seats k (entry x v)) b) → Holds ws (with_seats_at i (put x v seats) b)
  seat_again l e h = rw (put_is_set seats rise x k no_seat l e v) h

-- ---- seats one after another

put_rises : (x : Id) (v : Seat) (seats : Table Seat) → Rising key_of seats → Rising key_of (put x v seats)
put_rises x v seats r = from_rising 0 (put x v seats) (From-put x v 0 seats zero-le (rising_table seats r))

module _ (b : Board) (i : ℕ) (l : i < length b.reshapes) (s : Table Seat) where
  pub seats_there : seats_in_row i (with_seats_at i s b) ≡ s
  seats_there = ap (λ (e : Entry Reshape). e.val.seats) (get_or-set_same b.reshapes i _ no_reshape l)

  pub row_there : i < length (with_seats_at i s b).reshapes
  row_there = rw length-set l

  pub seats_renewed : (t : Table Seat) → with_seats_at i t (with_seats_at i s b) ≡ with_seats_at i t b
  seats_renewed t =
      let rows = b.reshapes in
      let e = entry (get_or rows i no_reshape).key (with_seats (λ _. s) (get_or rows i no_reshape).val) in
      let f : Entry Reshape → Entry Reshape = λ z. entry z.key (with_seats (λ _. t) z.val) in
      ap (λ (z : Table Reshape). on_reshapes (λ _. z) b) (set-set rows i e _ ∙ ap (λ (z : Entry Reshape). set rows i (f z)) (get_or-set_same rows i e no_reshape l))

pub no_seats_rise : Rising {A = Entry Seat} key_of []
unfolding rising
no_seats_rise = refl

pub seat_all_rises : (c : Shard) (ids : List Id) (seats : Table Seat) → Rising key_of seats → Rising key_of (seat_all c ids seats)
unfolding seat_all
seat_all_rises c [] seats r = r
seat_all_rises c (x ∷ ids) seats r = seat_all_rises c ids (put x (new_seat c) seats) (put_rises x (new_seat c) seats r)

pub seat_all_length : (c : Shard) (ids : List Id) (seats : Table Seat) → length (seat_all c ids seats) ≤ length seats + length ids
unfolding seat_all
seat_all_length c [] seats = omega arith
seat_all_length c (x ∷ ids) seats = omega (arith, seat_all_length c ids (put x (new_seat c) seats), length_put x (new_seat c) seats)

-- the seats so far, after k ids
pub record Seating (i : ℕ) (c : Shard) (ids : List Id) (b : Board) (k : ℕ) (ws : List ℕ) : Type 0 where
  pub seats : Table Seat
  pub holds : Holds ws (with_seats_at i seats b)
  pub rise : Rising key_of seats
  pub room : length seats + length (drop k ids) ≤ most_seats
  pub rest : seat_all c (drop k ids) seats ≡ seat_all c ids (seats_in_row i b)

module _ (i : ℕ) (c : Shard) (ids : List Id) (b : Board) where
  pub seating_begins : (ws : List ℕ) → Holds ws b → Rising key_of (seats_in_row i b) → length (seats_in_row i b) + length ids ≤ most_seats → Seating i c ids b 0 ws
  seating_begins ws h r m = record {
    seats = seats_in_row i b;
    holds = held_as ws b (with_seats_at i (seats_in_row i b) b) (sym (ap (λ (z : Table Reshape). on_reshapes (λ _. z) b) (set-get_or b.reshapes i no_reshape))) h;
    rise = r;
    room = m;
    rest = refl;
  }

  pub seating_goes_on : (k : ℕ) (ws vs : List ℕ) → i < length b.reshapes → k < length ids → (s : Seating i c ids b k ws)
      → (Rising key_of (seats_in_row i (with_seats_at i s.seats b)) → length (seats_in_row i (with_seats_at i s.seats b)) < most_seats
      → Holds vs (with_seats_at i (put (get_or ids k 0) (new_seat c) (seats_in_row i (with_seats_at i s.seats b))) (with_seats_at i s.seats b)))
      → Seating i c ids b (k + 1) vs
  unfolding seat_all
  seating_goes_on k ws vs l m s f =
      let x = get_or ids k 0 in
      let next = put x (new_seat c) s.seats in
      let e : drop k ids ≡ x ∷ drop (k + 1) ids = drop-cons ids k 0 m ∙ rw (add-one k) in
      let n : length (drop k ids) ≡ suc (length (drop (k + 1) ids)) = ap length e in
      let q = seats_there b i l s.seats in
      record {
        seats = next;
        holds = held_as vs _ _ (ap (λ (z : Table Seat). with_seats_at i (put x (new_seat c) z) (with_seats_at i s.seats b)) q ∙ seats_renewed b i l s.seats next) (f (rw q s.rise) (rw q (omega (arith, s.room))));
        rise = put_rises x (new_seat c) s.seats s.rise;
        room = omega (arith, s.room, length_put x (new_seat c) s.seats);
        rest = sym (ap (λ (z : List Id). seat_all c z s.seats) e) ∙ s.rest;
      }

  pub seating_ends : (k : ℕ) (ws : List ℕ) → length ids ≤ k → Seating i c ids b k ws → Holds ws (with_seats_at i (seat_all c ids (seats_in_row i b)) b)
  unfolding seat_all
  seating_ends k ws l s =
      held_as ws _ _ (ap (λ (z : Table Seat). with_seats_at i z b) (sym (ap (λ (z : List Id). seat_all c z s.seats) (drop_of_length-le ids {i = k} l)) ∙ s.rest)) s.holds

-- ---- the reshape's row

pub row_within : (t : Shard) (b : Board) → row_for t b ≤ length b.reshapes
row_within t b = first_most _ b.reshapes

-- as the leaf opens it
pub opened_held : (k : Kind) (t : Shard) (b : Board) (ws : List ℕ) (i epoch : ℕ) → i ≡ row_for t b → epoch ≡ epoch_of b
    → Holds ws (on_reshapes (λ rows. insert_at rows i (entry t (newly_admitted k epoch))) b) → Holds ws (opened k t [] b)
opened_held k t b ws i epoch p e h = rw (p, e) at h

module _ (k : Kind) (t : Shard) (b : Board) where
  pub opened_is_put : well_formed b ≡ true → at t b.reshapes ≡ none → (seats : Table Seat) → on_reshapes (put t (new_reshape k seats b)) b ≡ opened k t seats b
  opened_is_put ok n seats = ap (λ (z : Table Reshape). on_reshapes (λ _. z) b) (put_is_insert_at b.reshapes (reshapes_rise b ok) t (new_reshape k seats b) n)

  module _ (s : Table Seat) where
    pub opened_row : row_for t b < length (opened k t s b).reshapes
    opened_row = let l = row_within t b in rw (insert_length b.reshapes (row_for t b) (entry t (new_reshape k s b)) l) (omega arith)

    pub opened_seats : seats_in_row (row_for t b) (opened k t s b) ≡ s
    opened_seats = ap (λ (e : Entry Reshape). e.val.seats) (insert_at_lem b.reshapes (row_for t b) (entry t (new_reshape k s b)) no_reshape (row_within t b))

    pub opened_seated : (seats : Table Seat) → with_seats_at (row_for t b) seats (opened k t s b) ≡ opened k t seats b
    opened_seated seats =
        let rows = b.reshapes in
        let i = row_for t b in
        let e = entry t (new_reshape k s b) in
        let f : Entry Reshape → Entry Reshape = λ z. entry z.key (with_seats (λ _. seats) z.val) in
        ap (λ (z : Table Reshape). on_reshapes (λ _. z) b) (ap (λ (z : Entry Reshape). set (insert_at rows i e) i (f z)) (insert_at_lem rows i e no_reshape (row_within t b)) ∙ set_insert rows i e (f e) (row_within t b))
