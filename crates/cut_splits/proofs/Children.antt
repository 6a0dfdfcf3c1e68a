-- A child's committee on its way: who has come, and who is still to come. The reshape's row is read all along, and goes last.
use Prim.Native.Nat.{ℕ, ◌+◌, ◌-◌, ◌≤◌, ◌<◌}
use mathlib.Core.Path.{◌≡◌, refl, ap, sym, subst, ◌∙◌}
use mathlib.Core.Logic.{◌≢◌}
use mathlib.Core.List.{List, [], ◌∷◌, ◌++◌}
use mathlib.Core.Option.{Option, none, some}
use mathlib.Core.Bool.{Bool, true, false, cond}
use native.Mathlib.Omega.{arith}
use native.Mathlib.Numerals.{add-one}
use borrow.Author.Tests.{ltb-true, ltb-false, lt-ltb, le-ltb}
use lib.Dec.{eqb, ltb}
use lib.ListN.{length, get_or, drop, drop_of_length-le, length-append}
use lib.Seq.{drop-cons}
use Rattle.types.specs.Numbers.{Shard, Id}
use Rattle.types.specs.Places.{is_seated_on, is_observing, moved_to}
use Rattle.types.specs.declared.Place.{Place}
use Rattle.rules.specs.Table.{Entry, Table, at}
use Rattle.rules.specs.Board.{Seat, Reshape, Board, most_members, most_seats, most_half, on_reshapes, epoch_of}
use Rattle.rules.specs.WellFormed.{is_shard, is_target}
use Rattle.rules.specs.Moves.{place, join, put_on, for_all}
use Rattle.rules.specs.Cut.{settle, seated_by, cohort_for, settle_child}
use Rattle.rules.proofs.Tests.{by_cases}
use Rattle.rules.proofs.Turns.{for_all_keeps}
use Rattle.rules.proofs.KeptTables.{length_keys_where}
use Rattle.rules.proofs.KeptBoard.{family, Fit, Good}
use Rattle.rules.proofs.KeptMoves.{for_all_counts}
use Rattle.rules.proofs.KeptCut.{Settling, settling, may_arrive, settle_keeps}
use Rattle.board.specs.Held.{Holds, no_reshape, no_seat}
use Rattle.board.proofs.Fitting.{held_as}
use Rattle.pool.proofs.Pools.{keys_none, keys_here, keys_past}
use Rattle.reshapes.specs.declared.Side.{Side}
use Rattle.reshapes.specs.declared.Side.TheVariants.{Left, Right}
use Rattle.reshapes.specs.Changes.{half_of}
use Rattle.arriving.specs.Coming.{reshape_in, MayCome}
use Rattle.arriving.proofs.Comes.{joins_may, put_elsewhere}
use Rattle.arriving.proofs.Lists.{for_all_append, for_all_elsewhere}
use Rattle.cut_splits.specs.Settled.{child_of, seat_for, turn_of}

-- ---- in which order

module _ (c : Shard) (half : List Id) (seats : Table Seat) (k : ℕ) where
  -- those still to come before turn k
  abbrev rest : List Id
  rest = drop k half ++ cohort_for c (drop (k - length half) seats)

module _ (c : Shard) (half : List Id) (seats : Table Seat) where
  rest_begins : rest c half seats 0 ≡ half ++ cohort_for c seats
  rest_begins = let z : 0 - length half ≡ 0 = omega arith in rw z

  rest_ends : (k : ℕ) → length half + length seats ≤ k → rest c half seats k ≡ []
  unfolding cohort_for
  rest_ends k l = rw (drop_of_length-le half {i = k} (omega arith)) (keys_none (λ q. eqb q.child c) seats (k - length half) (omega arith))

  rest_goes_on : (k : ℕ) → k < length half + length seats → rest c half seats k ≡ turn_of c half seats k ++ rest c half seats (k + 1)
  unfolding cohort_for
  rest_goes_on k l = go (ltb k (length half)) refl
    where
      seated : length half ≤ k → (q : Bool) → eqb (get_or seats (k - length half) no_seat).val.child c ≡ q
          → cohort_for c (drop (k - length half) seats) ≡ cond q ((get_or seats (k - length half) no_seat).key ∷ []) [] ++ cohort_for c (drop (k - length half + 1) seats)
      seated m true e = keys_here (λ q. eqb q.child c) seats (k - length half) no_seat (omega arith) e
      seated m false e = keys_past (λ q. eqb q.child c) seats (k - length half) no_seat (omega arith) e

      go : (q : Bool) → ltb k (length half) ≡ q → rest c half seats k ≡ cond q (get_or half k 0 ∷ []) (seat_for c (get_or seats (k - length half) no_seat)) ++ rest c half seats (k + 1)
      go true u =
          let m = ltb-true k (length half) u in
          let y : k - length half ≡ 0 = omega arith in
          let z : k + 1 - length half ≡ 0 = omega arith in
          rw (y, z, add-one k, drop-cons half k 0 m)
      go false u =
          let m : length half ≤ k = ltb-false k (length half) u in
          let z : k + 1 - length half ≡ k - length half + 1 = omega arith in
          rw (drop_of_length-le half {i = k} m, drop_of_length-le half {i = k + 1} (omega arith), z) (seated m _ refl)

-- ---- one turn, as the code reads it

module _ (c : Shard) (half : List Id) (seats : Table Seat) (k n : ℕ) (e : n ≡ length half) where
  pub turn_half : k < n → turn_of c half seats k ≡ get_or half k 0 ∷ []
  turn_half l = rw (lt-ltb k (length half) (omega arith))

  module _ (l : n ≤ k) (q : Entry Seat) (s : q ≡ get_or seats (k - n) no_seat) where
    next_seat : get_or seats (k - length half) no_seat ≡ q
    next_seat = rw (← e) (sym s)

    pub turn_seat : eqb q.val.child c ≡ true → turn_of c half seats k ≡ q.key ∷ []
    turn_seat y = rw (le-ltb k (length half) (omega arith), next_seat, y)

    pub turn_passed : eqb q.val.child c ≡ false → turn_of c half seats k ≡ []
    turn_passed y = rw (le-ltb k (length half) (omega arith), next_seat, y)

module _ (t c : Shard) (seats : Table Seat) (b : Board) (after : List ℕ) (turn : List Id) where
  pub one_settled : (x y : Id) → turn ≡ x ∷ [] → y ≡ x → Holds after (settle t c seats y b) → Holds after (for_all (settle t c seats) turn b)
  unfolding for_all
  one_settled x y e i h = rw e (rw i at h)

  pub none_settled : turn ≡ [] → Holds after b → Holds after (for_all (settle t c seats) turn b)
  unfolding for_all
  none_settled e h = rw e h

-- ---- a child

pub child_shard : (side : Side) (t : Shard) → is_target t ≡ true → is_shard (child_of side t) ≡ true
child_shard Right t ok = (family t ok).right
child_shard Left t ok = (family t ok).left

pub child_apart : (side : Side) (t : Shard) → is_target t ≡ true → child_of side t ≢ t
child_apart Right t ok = omega (arith, (family t ok).least)
child_apart Left t ok = omega (arith, (family t ok).least)

pub half_room : (side : Side) {t : Shard} {r : Reshape} → Fit t r → length (half_of side r) ≤ most_half
half_room Right f = f.right.room
half_room Left f = f.left.room

-- ---- what settling leaves alone

abbrev Same : Board → Board → Type 0
Same b d = d.reshapes ≡ b.reshapes

module _ (t c : Shard) (seats : Table Seat) where
  settle_reshapes : (x : Id) (b : Board) → Same b (settle t c seats x b)
  unfolding settle put_on join place
  settle_reshapes x b = go (at x b.machines)
    where
      look : (p : Place) (o : Option Seat) → Same b (elim o [ none ↦ b | some q ↦ cond (is_observing p) (put_on c (seated_by c q (epoch_of b)) x b) b ])
      look p none = refl
      look p (some q) = by_cases (Same b) (is_observing p) _ _ (λ e. refl) (λ e. refl)

      go : (o : Option Place) → Same b (elim o [
        | none ↦ b
        | some p ↦
            cond (is_seated_on t p) (put_on c (moved_to c) x b)
            (elim (at x seats) [ none ↦ b | some q ↦ cond (is_observing p) (put_on c (seated_by c q (epoch_of b)) x b) b ])
      ])
      go none = refl
      go (some p) = by_cases (Same b) (is_seated_on t p) _ _ (λ e. refl) (λ e. look p (at x seats))

  module _ (f : Table Reshape → Table Reshape) where
    settle_elsewhere : (x : Id) (b : Board) → settle t c seats x (on_reshapes f b) ≡ on_reshapes f (settle t c seats x b)
    unfolding settle
    settle_elsewhere x b = go (at x b.machines)
      where
        one : (q : Bool) (move : Place → Place) (u v : Board) → u ≡ on_reshapes f v → cond q (put_on c move x (on_reshapes f b)) u ≡ on_reshapes f (cond q (put_on c move x b) v)
        one true move u v e = put_elsewhere c f move x b
        one false move u v e = e

        look : (p : Place) (o : Option Seat) → elim o [ none ↦ on_reshapes f b | some q ↦ cond (is_observing p) (put_on c (seated_by c q (epoch_of b)) x (on_reshapes f b)) (on_reshapes f b) ]
            ≡ on_reshapes f (elim o [ none ↦ b | some q ↦ cond (is_observing p) (put_on c (seated_by c q (epoch_of b)) x b) b ])
        look p none = refl
        look p (some q) = one (is_observing p) (seated_by c q (epoch_of b)) (on_reshapes f b) b refl

        go : (o : Option Place) → elim o [
          | none ↦ on_reshapes f b
          | some p ↦
              cond (is_seated_on t p) (put_on c (moved_to c) x (on_reshapes f b))
              (elim (at x seats) [ none ↦ on_reshapes f b | some q ↦ cond (is_observing p) (put_on c (seated_by c q (epoch_of b)) x (on_reshapes f b)) (on_reshapes f b) ])
        ] ≡ on_reshapes f (elim o [
          | none ↦ b
          | some p ↦
              cond (is_seated_on t p) (put_on c (moved_to c) x b)
              (elim (at x seats) [ none ↦ b | some q ↦ cond (is_observing p) (put_on c (seated_by c q (epoch_of b)) x b) b ])
        ])
        go none = refl
        go (some p) = one (is_seated_on t p) (moved_to c) _ _ (look p (at x seats))

    -- the order does not matter: the row may go before or after
    pub child_elsewhere : (half : List Id) (b : Board) → settle_child t c half seats (on_reshapes f b) ≡ on_reshapes f (settle_child t c half seats b)
    unfolding settle_child
    child_elsewhere half b = for_all_elsewhere f (settle t c seats) settle_elsewhere _ b

  pub child_reshapes : (half : List Id) (b : Board) → Same b (settle_child t c half seats b)
  unfolding settle_child
  child_reshapes half b = for_all_keeps (Same b) (settle t c seats) (λ x d e. settle_reshapes x d ∙ e) (half ++ cohort_for c seats) b refl

-- ---- k turns are done

pub record Filled (t c : Shard) (side : Side) (i : ℕ) (b : Board) (k : ℕ) (ws : List ℕ) : Type 0 where
  pub board : Board
  pub held : Holds ws board
  pub way : Settling b c (rest c (half_of side (reshape_in i b)) (reshape_in i b).seats k) board
  pub same : board.reshapes ≡ b.reshapes
  pub whole : for_all (settle t c (reshape_in i b).seats) (rest c (half_of side (reshape_in i b)) (reshape_in i b).seats k) board
      ≡ settle_child t c (half_of side (reshape_in i b)) (reshape_in i b).seats b

module _ (t c : Shard) (side : Side) (i : ℕ) (b : Board) where
  abbrev half : List Id
  half = half_of side (reshape_in i b)

  abbrev seats : Table Seat
  seats = (reshape_in i b).seats

  pub none_came : (ws : List ℕ) → Holds ws b → Good b → is_shard c ≡ true → at c b.committees ≡ some [] → length half ≤ most_half → length seats ≤ most_seats → Filled t c side i b 0 ws
  unfolding settle_child cohort_for
  none_came ws h g ok e m n =
      let all : length (half ++ cohort_for c seats) ≤ most_members = rw length-append (omega (arith, length_keys_where (λ q. eqb q.child c) seats)) in
      record {
        board = b;
        held = h;
        way = rw (rest_begins c half seats) (settling c (half ++ cohort_for c seats) g ok e all);
        same = refl;
        whole = ap (λ l. for_all (settle t c seats) l b) (rest_begins c half seats);
      }

  module _ (k : ℕ) (ws : List ℕ) (u : Filled t c side i b k ws) where
    -- the reshape's row is the same all along
    same_row : reshape_in i u.board ≡ reshape_in i b
    same_row = ap (λ (z : Table Reshape). (get_or z i no_reshape).val) u.same

    pub row_stays : i < length b.reshapes → i < length u.board.reshapes
    row_stays h = rw u.same h

    module _ (n : ℕ) (e : n ≡ length half) where
      pub half_stays : n ≡ length (half_of side (reshape_in i u.board))
      half_stays = subst (λ (r : Reshape). n ≡ length (half_of side r)) (sym same_row) e

      pub seats_stay : k < n + length seats → k < n + length (reshape_in i u.board).seats
      seats_stay l = subst (λ (r : Reshape). k < n + length r.seats) (sym same_row) l

    module _ (l : k < length half + length seats) where
      coming : Settling b c (turn_of c half seats k ++ rest c half seats (k + 1)) u.board
      coming = rw (rest_goes_on c half seats k l) at u.way

      pub may_come : (x : Id) → turn_of c (half_of side (reshape_in i u.board)) (reshape_in i u.board).seats k ≡ x ∷ [] → MayCome c x u.board
      may_come x e p a n =
          let own : turn_of c half seats k ≡ x ∷ [] = subst (λ (r : Reshape). turn_of c (half_of side r) r.seats k ≡ x ∷ []) same_row e in
          joins_may u.way.good (may_arrive x (rest c half seats (k + 1)) p a n (rw own at coming))

      pub one_came : c ≢ t → (after : List ℕ)
          → Holds after (for_all (settle t c (reshape_in i u.board).seats) (turn_of c (half_of side (reshape_in i u.board)) (reshape_in i u.board).seats k) u.board)
          → Filled t c side i b (k + 1) after
      one_came n after h = record {
        board = for_all (settle t c seats) (turn_of c half seats k) u.board;
        held = subst (λ (r : Reshape). Holds after (for_all (settle t c r.seats) (turn_of c (half_of side r) r.seats k) u.board)) same_row h;
        way = for_all_counts (Settling b c) (settle t c seats) (settle_keeps b t c seats n) (turn_of c half seats k) (rest c half seats (k + 1)) u.board coming;
        same = for_all_keeps (Same b) (settle t c seats) (λ x d e. settle_reshapes t c seats x d ∙ e) (turn_of c half seats k) u.board u.same;
        whole = sym (for_all_append (settle t c seats) (turn_of c half seats k) (rest c half seats (k + 1)) u.board)
            ∙ ap (λ l. for_all (settle t c seats) l u.board) (sym (rest_goes_on c half seats k l)) ∙ u.whole;
      }

    pub all_came : length half + length seats ≤ k → Holds ws (settle_child t c half seats b)
    unfolding for_all
    all_came l = held_as ws _ _ (ap (λ l. for_all (settle t c seats) l u.board) (sym (rest_ends c half seats k l)) ∙ u.whole) u.held
