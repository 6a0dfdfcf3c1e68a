-- The moves on a reshape's lists, by key, as the leaves do them at a row.
use Prim.Native.Nat.{ℕ, ◌≤◌, ◌<◌}
use mathlib.Core.Path.{◌≡◌, ap, ◌∙◌}
use mathlib.Core.Option.{none}
use mathlib.Core.Bool.{true, false, cond}
use lib.ListN.{length, get_or, set}
use lib.Seq.{set-get_or}
use Rattle.types.specs.Numbers.{Shard, Id}
use Rattle.rules.specs.Table.{entry, Table, at, put, remove, update}
use Rattle.rules.specs.Board.{Kind, Seat, Reshape, Board, on_reshapes}
use Rattle.rules.specs.Moves.{is_kind, with_seats, give_up_seat}
use Rattle.tables.specs.Rows.{Rising, key_of, place_of, insert_at, remove_at}
use Rattle.tables.proofs.Keys.{first_most, remove_none, remove_is_remove_at, put_is_insert_at}
use Rattle.board.specs.Held.{no_reshape, no_seat}
use Rattle.board.specs.Leaves.{change_at}
use Rattle.board.proofs.Keyed.{update_is_change}

-- the seats of the reshape at a row
abbrev pub seats_in_row : ℕ → Board → Table Seat
seats_in_row i b = (get_or b.reshapes i no_reshape).val.seats

-- the place of an id is within them, or at their end
pub place_within : (x : Id) (t : Table Seat) (k : ℕ) → k ≡ place_of key_of x t → k ≤ length t
place_within x t k e = rw e (first_most _ t)

-- the reshape at t stands at row i
module _ (b : Board) (t : Shard) (i : ℕ) (r : Rising key_of b.reshapes) (h : i < length b.reshapes) (e : (get_or b.reshapes i no_reshape).key ≡ t) where
  abbrev here : Reshape
  here = (get_or b.reshapes i no_reshape).val

  pub reshape_at_lem : (f : Reshape → Reshape) → on_reshapes (update t f) b ≡ on_reshapes (change_at no_reshape i f) b
  reshape_at_lem f = ap (λ (x : Table Reshape). on_reshapes (λ _. x) b) (update_is_change b.reshapes r t i no_reshape h e f)

  -- changes that come to the same there
  pub reshape_same : (f g : Reshape → Reshape) → f here ≡ g here → on_reshapes (update t f) b ≡ on_reshapes (change_at no_reshape i g) b
  reshape_same f g q = reshape_at_lem f ∙ ap (λ (x : Reshape). on_reshapes (λ _. set b.reshapes i (entry (get_or b.reshapes i no_reshape).key x)) b) q

  pub seats_same : (f g : Table Seat → Table Seat) → f here.seats ≡ g here.seats → on_reshapes (update t (with_seats f)) b ≡ on_reshapes (change_at no_reshape i (with_seats g)) b
  seats_same f g q = reshape_same (with_seats f) (with_seats g) (ap (λ (s : Table Seat). with_seats (λ _. s) here) q)

  -- a seat of an id that has none
  pub seat_opened : (x : Id) (v : Seat) → Rising key_of here.seats → at x here.seats ≡ none
      → on_reshapes (update t (with_seats (put x v))) b ≡ on_reshapes (change_at no_reshape i (with_seats (λ s. insert_at s (place_of key_of x here.seats) (entry x v)))) b
  seat_opened x v s q = seats_same (put x v) (λ y. insert_at y (place_of key_of x here.seats) (entry x v)) (put_is_insert_at here.seats s x v q)

  -- the seat of x stands at row n
  module _ (x : Id) (n : ℕ) (s : Rising key_of here.seats) (l : n < length here.seats) (k : (get_or here.seats n no_seat).key ≡ x) where
    pub seat_given_up : (m : Kind) → is_kind m here ≡ true → give_up_seat m t x b ≡ on_reshapes (change_at no_reshape i (with_seats (λ y. remove_at y n))) b
    unfolding give_up_seat
    seat_given_up m c =
        reshape_same (λ z. cond (is_kind m z) (with_seats (remove x) z) z) (with_seats (λ y. remove_at y n))
        (rw c (ap (λ (y : Table Seat). with_seats (λ _. y) here) (remove_is_remove_at here.seats s x n no_seat l k)))

  unchanged : on_reshapes (change_at no_reshape i (λ z. z)) b ≡ b
  unchanged = ap (λ (x : Table Reshape). on_reshapes (λ _. x) b) (set-get_or b.reshapes i no_reshape)

  -- a reshape of the other kind, or no seat of x: nothing goes
  pub seat_kept : (m : Kind) (x : Id) → is_kind m here ≡ false → give_up_seat m t x b ≡ b
  unfolding give_up_seat
  seat_kept m x c = reshape_same (λ z. cond (is_kind m z) (with_seats (remove x) z) z) (λ z. z) (rw c) ∙ unchanged

  pub seat_missing : (m : Kind) (x : Id) → is_kind m here ≡ true → at x here.seats ≡ none → give_up_seat m t x b ≡ b
  unfolding give_up_seat
  seat_missing m x c q =
      reshape_same (λ z. cond (is_kind m z) (with_seats (remove x) z) z) (λ z. z) (rw c (ap (λ (y : Table Seat). with_seats (λ _. y) here) (remove_none x here.seats q)))
      ∙ unchanged
