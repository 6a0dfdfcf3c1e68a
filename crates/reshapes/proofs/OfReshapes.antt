-- A reshape's row: its first words, and its three tables.
use Prim.Native.Nat.{ℕ, ◌+◌, ◌-◌, ◌*◌, ◌≤◌, ◌<◌}
use mathlib.Core.Path.{◌≡◌, refl, ap, sym, ◌∙◌}
use mathlib.Core.List.{List, [], ◌++◌, append_assoc, append-nil}
use mathlib.Core.Option.{Option, none, some}
use mathlib.Core.Bool.{Bool, true, false}
use native.Mathlib.Omega.{arith}
use borrow.Author.Tests.{leb-true, le-leb}
use borrow.Rule.Slice.PartMut.{put_mid}
use lib.Dec.{eqb}
use lib.ListN.{length, get_or, set, take, drop, replicate, length-append}
use Rattle.types.specs.Numbers.{Id, Epoch}
use Rattle.rules.specs.Lists.{bit_of}
use Rattle.rules.specs.Table.{Entry, entry, Table, is_some}
use Rattle.rules.specs.Board.{Kind, split, merge, Seat, Reshape, Board, most_reshapes, most_seats, most_half, on_reshapes}
use Rattle.rules.specs.Moves.{is_kind, with_seats, with_quiet, with_drain_by}
use Rattle.rules.specs.Snapshot.{rows_words, flag_of, value_of, kind_word, seat_words, id_words, reshape_words}
use Rattle.rules.proofs.Tests.{all_parts, all_joins}
use Rattle.tables.specs.Rows.{pad, id_table}
use Rattle.shifts.proofs.Parts.{Spot}
use Rattle.tables.proofs.Tables.{table_length}
use Rattle.board.specs.Layout.{seat_width, seats_at, left_at, right_at, reshape_width, reshapes_at, seat_table, reshape_head, reshape_row, encode}
use Rattle.board.specs.Held.{roomy_reshape, Holds, no_reshape}
use Rattle.board.specs.Leaves.{change_at}
use Rattle.board.proofs.One.{bit_back}
use Rattle.board.proofs.Widths.{head_wide}
use Rattle.board.proofs.Sections.{reshapes, part_lent, part_back, part_first}
use Rattle.board.proofs.Fitting.{every_at, every_set, set_room, held_reshapes}
use Rattle.reshapes.specs.declared.Side.{Side}
use Rattle.reshapes.specs.declared.Side.TheVariants.{Left, Right}
use Rattle.reshapes.specs.Changes.{kind_of, with_left, with_right, half_of, with_half, quiet_of, with_quiet_on, quiet_at, half_at, at_terminal, newly_admitted}

-- ---- what the words say

flag_is : (o : Option Epoch) → eqb (flag_of o) 1 ≡ is_some o
unfolding flag_of is_some
flag_is none = refl
flag_is (some e) = refl

kind_is : (r : Reshape) → eqb (kind_word r.kind) 1 ≡ is_kind merge r
unfolding kind_word is_kind
kind_is r = go r.kind
  where
    go : (k : Kind) → eqb (kind_word k) 1 ≡ elim k [ split ↦ false | merge ↦ true ]
    go split = refl
    go merge = refl

kind_word_lem : (c : Bool) → bit_of c ≡ kind_word (kind_of c)
unfolding kind_word
kind_word_lem true = refl
kind_word_lem false = refl

-- ---- the first words of a row

module _ (e : Entry Reshape) where
  pub target_is : get_or (reshape_row e) 0 0 ≡ e.key
  unfolding reshape_row reshape_head reshape_words
  target_is = refl

  pub merge_is : eqb (get_or (reshape_row e) 1 0) 1 ≡ is_kind merge e.val
  unfolding reshape_row reshape_head reshape_words
  merge_is = kind_is e.val

  pub admitted_is : get_or (reshape_row e) 2 0 ≡ e.val.admitted
  unfolding reshape_row reshape_head reshape_words
  admitted_is = refl

  pub draining_is : eqb (get_or (reshape_row e) 3 0) 1 ≡ is_some e.val.drain_by
  unfolding reshape_row reshape_head reshape_words
  draining_is = flag_is e.val.drain_by

  pub scheduled_is : eqb (get_or (reshape_row e) 5 0) 1 ≡ is_some e.val.terminal
  unfolding reshape_row reshape_head reshape_words
  scheduled_is = flag_is e.val.terminal

  pub terminal_is : get_or (reshape_row e) 6 0 ≡ value_of e.val.terminal
  unfolding reshape_row reshape_head reshape_words
  terminal_is = refl

  pub quiet_left_is : eqb (get_or (reshape_row e) 7 0) 1 ≡ e.val.quiet_left
  unfolding reshape_row reshape_head reshape_words
  quiet_left_is = bit_back e.val.quiet_left

  pub quiet_right_is : eqb (get_or (reshape_row e) 8 0) 1 ≡ e.val.quiet_right
  unfolding reshape_row reshape_head reshape_words
  quiet_right_is = bit_back e.val.quiet_right

  pub left_quieted : set (reshape_row e) 7 1 ≡ reshape_row (entry e.key (with_quiet (λ q. true) (λ q. q) e.val))
  unfolding reshape_row reshape_head reshape_words
  left_quieted = refl

  pub right_quieted : set (reshape_row e) 8 1 ≡ reshape_row (entry e.key (with_quiet (λ q. q) (λ q. true) e.val))
  unfolding reshape_row reshape_head reshape_words
  right_quieted = refl

  pub quiet_is : (side : Side) → eqb (get_or (reshape_row e) (quiet_at side) 0) 1 ≡ quiet_of side e.val
  quiet_is Left = quiet_left_is
  quiet_is Right = quiet_right_is

  pub quieted : (side : Side) → set (reshape_row e) (quiet_at side) 1 ≡ reshape_row (entry e.key (with_quiet_on side e.val))
  quieted Left = left_quieted
  quieted Right = right_quieted

  pub drain_stored : (t : List ℕ) (by : ℕ) → t ≡ reshape_row e → set (set t 3 1) 4 by ≡ reshape_row (entry e.key (with_drain_by by e.val))
  unfolding reshape_row reshape_head reshape_words flag_of value_of
  drain_stored t by q = ap (λ (l : List ℕ). set (set l 3 1) 4 by) q

  pub terminal_stored : (t : List ℕ) (end : ℕ) → t ≡ reshape_row e → set (set t 5 1) 6 end ≡ reshape_row (entry e.key (at_terminal end e.val))
  unfolding reshape_row reshape_head reshape_words flag_of value_of
  terminal_stored t end q = ap (λ (l : List ℕ). set (set l 5 1) 6 end) q

pub no_reshape_lem : reshape_row no_reshape ≡ replicate reshape_width 0
unfolding reshape_row reshape_head reshape_words rows_words pad kind_word flag_of value_of
no_reshape_lem = refl

pub admitted_stored : (t : List ℕ) (target admitted bit : ℕ) (merging : Bool) → bit ≡ bit_of merging → t ≡ reshape_row no_reshape
    → set (set (set t 0 target) 1 bit) 2 admitted ≡ reshape_row (entry target (newly_admitted (kind_of merging) admitted))
unfolding reshape_row reshape_head reshape_words kind_word
admitted_stored t target admitted bit merging e q =
    ap (λ (l : List ℕ). set (set (set l 0 target) 1 bit) 2 admitted) q ∙ rw (e, kind_word_lem merging)

-- ---- the three tables

ends : (h s l r : List ℕ) → (h ++ (s ++ l)) ++ (r ++ []) ≡ h ++ (s ++ (l ++ r))
ends h s l r = simp (append_assoc, append-nil)

module _ (e : Entry Reshape) where
  abbrev H : List ℕ
  H = reshape_head e

  pub seats_spot : Spot seat_table (λ s. reshape_row (entry e.key (with_seats (λ _. s) e.val))) seats_at
  unfolding reshape_row reshape_head reshape_words
  seats_spot = record { front = H; back = id_table most_half e.val.left ++ id_table most_half e.val.right; is = λ s. refl; size = refl }

  pub left_spot : Spot (id_table most_half) (λ l. reshape_row (entry e.key (with_left (λ _. l) e.val))) left_at
  unfolding reshape_row reshape_head reshape_words
  left_spot = record {
    front = H ++ seat_table e.val.seats;
    back = id_table most_half e.val.right;
    is = λ l. simp append_assoc;
    size = simp length-append (omega (arith, head_wide e, table_length seat_words seat_width most_seats e.val.seats));
  }

  pub right_spot : Spot (id_table most_half) (λ l. reshape_row (entry e.key (with_right (λ _. l) e.val))) right_at
  unfolding reshape_row reshape_head reshape_words
  right_spot = record {
    front = H ++ (seat_table e.val.seats ++ id_table most_half e.val.left);
    back = [];
    is = λ l. sym (ends H (seat_table e.val.seats) (id_table most_half e.val.left) (id_table most_half l));
    size = simp length-append (omega (arith, head_wide e, table_length seat_words seat_width most_seats e.val.seats, table_length id_words 1 most_half e.val.left));
  }

  pub half_spot : (side : Side) → Spot (id_table most_half) (λ l. reshape_row (entry e.key (with_half side (λ _. l) e.val))) (half_at side)
  half_spot Left = left_spot
  half_spot Right = right_spot

-- ---- a side's part of a reshape

pub half_same : (side : Side) (r : Reshape) → with_half side (λ _. half_of side r) r ≡ r
half_same Left r = refl
half_same Right r = refl

pub half_made : (side : Side) (f : List Id → List Id) (r : Reshape) → with_half side (λ _. f (half_of side r)) r ≡ with_half side f r
half_made Left f r = refl
half_made Right f r = refl

pub quiet_below : (side : Side) → quiet_at side < reshape_width
quiet_below Left = omega arith
quiet_below Right = omega arith

pub half_within : (side : Side) → half_at side + (1 + most_half) ≤ reshape_width
half_within Left = omega arith
half_within Right = omega arith

-- ---- the lists of the reshape at i

module _ (e : Entry Reshape) where
  rooms : roomy_reshape e ≡ true → (length e.val.seats ≤ most_seats) × (length e.val.left ≤ most_half) × (length e.val.right ≤ most_half)
  unfolding roomy_reshape
  rooms h = let p = all_parts _ h in (leb-true _ _ p.0, leb-true _ _ p.1.0, leb-true _ _ p.1.1.0)

  roomy : length e.val.seats ≤ most_seats → length e.val.left ≤ most_half → length e.val.right ≤ most_half → roomy_reshape e ≡ true
  unfolding roomy_reshape
  roomy s l r = all_joins _ (le-leb _ _ s, (le-leb _ _ l, (le-leb _ _ r, tt)))

module _ (ws : List ℕ) (b : Board) (h : Holds ws b) (i : ℕ) (l : i < length b.reshapes) where
  abbrev row : Entry Reshape
  row = get_or b.reshapes i no_reshape

  row_roomy : roomy_reshape row ≡ true
  row_roomy = every_at roomy_reshape b.reshapes i no_reshape h.fits.lists l

  pub seats_room : length row.val.seats ≤ most_seats
  seats_room = (rooms row row_roomy).0

  pub left_room : length row.val.left ≤ most_half
  left_room = (rooms row row_roomy).1

  pub right_room : length row.val.right ≤ most_half
  right_room = (rooms row row_roomy).2

  pub half_room : (side : Side) → length (half_of side row.val) ≤ most_half
  half_room Left = left_room
  half_room Right = right_room

  -- the words of the board with another reshape at i
  pub changed : (f : Reshape → Reshape) (vs : List ℕ) → vs ≡ encode (on_reshapes (change_at no_reshape i f) b) → roomy_reshape (entry row.key (f row.val)) ≡ true
      → Holds vs (on_reshapes (change_at no_reshape i f) b)
  changed f vs e r =
      held_reshapes ws b h vs (change_at no_reshape i f b.reshapes) e (set_room most_reshapes b.reshapes i _ h.fits.reshapes)
      (every_set roomy_reshape b.reshapes i _ h.fits.lists r)

  -- a change of a field leaves the lists
  pub field_changed : (f : Reshape → Reshape) (vs : List ℕ) → vs ≡ encode (on_reshapes (change_at no_reshape i f) b) → (f row.val).seats ≡ row.val.seats → (f row.val).left ≡ row.val.left
      → (f row.val).right ≡ row.val.right → Holds vs (on_reshapes (change_at no_reshape i f) b)
  field_changed f vs e s p q = changed f vs e (roomy (entry row.key (f row.val)) (rw s seats_room) (rw p left_room) (rw q right_room))

  abbrev at : ℕ → ℕ
  at c = reshapes_at + 1 + i * reshape_width + c

  module _ {B : Type 0} {inner : List B → List ℕ} {c : ℕ} (g : List B → Reshape) (t : Spot inner (λ y. reshape_row (entry row.key (g y))) c) (x : List B) (same : g x ≡ row.val) (n : ℕ)
      (wide : length (inner x) ≡ n) where
    same_row : entry row.key (g x) ≡ row
    same_row = ap (entry row.key) same

    list_lent : take (at c + n - at c) (drop (at c) ws) ≡ inner x
    list_lent = part_lent reshapes ws b h i no_reshape l (λ y. entry row.key (g y)) t x same_row n wide

    list_first : 0 < n → get_or ws (at c) 0 ≡ get_or (inner x) 0 0
    list_first m = part_first reshapes ws b h i no_reshape l (λ y. entry row.key (g y)) t x same_row n wide m

    list_back : (y : List B) (p : List ℕ) → p ≡ inner y → put_mid (at c) (at c + n - at c) ws p ≡ encode (on_reshapes (λ _. set b.reshapes i (entry row.key (g y))) b)
    list_back y p e = part_back reshapes ws b h i no_reshape l (λ y. entry row.key (g y)) t x same_row n wide y p e

  -- seats
  seats_wide : length (seat_table row.val.seats) ≡ 1 + most_seats * seat_width
  seats_wide = table_length seat_words seat_width most_seats row.val.seats

  pub seats_count : get_or ws (at seats_at) 0 ≡ length row.val.seats
  seats_count = list_first (λ s. with_seats (λ _. s) row.val) (seats_spot row) row.val.seats refl (1 + most_seats * seat_width) seats_wide (omega arith)

  pub seats_lent : take (at seats_at + (1 + most_seats * seat_width) - at seats_at) (drop (at seats_at) ws) ≡ seat_table row.val.seats
  seats_lent = list_lent (λ s. with_seats (λ _. s) row.val) (seats_spot row) row.val.seats refl (1 + most_seats * seat_width) seats_wide

  pub seats_back : (f : Table Seat → Table Seat) (p : List ℕ) → p ≡ seat_table (f row.val.seats) → length (f row.val.seats) ≤ most_seats
      → Holds (put_mid (at seats_at) (at seats_at + (1 + most_seats * seat_width) - at seats_at) ws p) (on_reshapes (change_at no_reshape i (with_seats f)) b)
  seats_back f p e m =
      changed (with_seats f) _ (list_back (λ s. with_seats (λ _. s) row.val) (seats_spot row) row.val.seats refl (1 + most_seats * seat_width) seats_wide (f row.val.seats) p e)
      (roomy (entry row.key (with_seats f row.val)) m left_room right_room)

  -- a half
  half_wide : (m : List Id) → length (id_table most_half m) ≡ 1 + most_half
  half_wide m = table_length id_words 1 most_half m

  pub half_lent : (side : Side) → take (at (half_at side) + (1 + most_half) - at (half_at side)) (drop (at (half_at side)) ws) ≡ id_table most_half (half_of side row.val)
  half_lent side = list_lent (λ m. with_half side (λ _. m) row.val) (half_spot row side) (half_of side row.val) (half_same side row.val) (1 + most_half) (half_wide (half_of side row.val))

  half_roomy : (side : Side) (f : List Id → List Id) → length (f (half_of side row.val)) ≤ most_half → roomy_reshape (entry row.key (with_half side f row.val)) ≡ true
  half_roomy Left f m = roomy (entry row.key (with_left f row.val)) seats_room m right_room
  half_roomy Right f m = roomy (entry row.key (with_right f row.val)) seats_room left_room m

  pub half_back : (side : Side) (f : List Id → List Id) (p : List ℕ) → p ≡ id_table most_half (f (half_of side row.val)) → length (f (half_of side row.val)) ≤ most_half
      → Holds (put_mid (at (half_at side)) (at (half_at side) + (1 + most_half) - at (half_at side)) ws p) (on_reshapes (change_at no_reshape i (with_half side f)) b)
  half_back side f p e m =
      changed (with_half side f) _
      (list_back (λ x. with_half side (λ _. x) row.val) (half_spot row side) (half_of side row.val) (half_same side row.val) (1 + most_half) (half_wide (half_of side row.val)) (f (half_of side row.val)) p e
      ∙ ap (λ (q : Reshape). encode (on_reshapes (λ _. set b.reshapes i (entry row.key q)) b)) (half_made side f row.val))
      (half_roomy side f m)

  -- the side made quiet
  pub quiet_changed : (side : Side) (vs : List ℕ) → vs ≡ encode (on_reshapes (change_at no_reshape i (with_quiet_on side)) b) → Holds vs (on_reshapes (change_at no_reshape i (with_quiet_on side)) b)
  quiet_changed Left vs e = field_changed (with_quiet_on Left) vs e refl refl refl
  quiet_changed Right vs e = field_changed (with_quiet_on Right) vs e refl refl refl

pub roomy_none : roomy_reshape no_reshape ≡ true
roomy_none = roomy no_reshape (omega arith) (omega arith) (omega arith)

pub roomy_new : (target : ℕ) (k : Kind) (admitted : ℕ) → roomy_reshape (entry target (newly_admitted k admitted)) ≡ true
roomy_new target k admitted = roomy (entry target (newly_admitted k admitted)) (omega arith) (omega arith) (omega arith)
