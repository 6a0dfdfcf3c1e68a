-- A cohort set to watch, as the code has it: one id, and those to come.
use Prim.Native.Nat.{ℕ, zero, suc, ◌+◌, ◌-◌, ◌≤◌, ◌<◌}
use mathlib.Core.Path.{◌≡◌, refl, ap, sym, ◌∙◌}
use mathlib.Core.List.{List, [], ◌∷◌}
use mathlib.Core.Option.{Option, none, some}
use mathlib.Core.Bool.{Bool, true, false, cond, false≢true}
use native.Mathlib.Omega.{arith}
use native.Mathlib.Numerals.{add-one}
use borrow.Author.Tests.{lt-ltb, ltb-true, ltb-false}
use lib.Dec.{eqb, ltb}
use lib.ListN.{length, get_or, set, take, drop, drop_of_length-le, length-set}
use lib.Seq.{drop-cons, get_or-set_same}
use Rattle.types.specs.Numbers.{Shard, Id}
use Rattle.types.specs.Shards.{left_of, right_of}
use Rattle.types.specs.Places.{set_to_watch}
use Rattle.types.specs.declared.Place.{Place}
use Rattle.rules.specs.Lists.{◌or◌, is_empty}
use Rattle.rules.specs.Table.{Entry, entry, Table, is_some, at, stands, put, update}
use Rattle.rules.specs.Board.{Seat, Reshape, Board, most_committees, most_members, most_seats, on_reshapes, epoch_of, size_of}
use Rattle.rules.specs.WellFormed.{good_ids, well_formed}
use Rattle.rules.specs.Moves.{members_of, place, join, put_on, for_all, may_join, with_seats, new_seat, watch}
use Rattle.rules.specs.Reshapes.{half_up, watch_all}
use Rattle.rules.proofs.Counts.{Alike, same, apart, alike, hit_same, occ}
use Rattle.rules.proofs.Tables.{at_put}
use Rattle.rules.proofs.Tests.{by_cases, and_joins, or_left, or_right, not_of, of_le, every_join, every_none, has_occ}
use Rattle.rules.proofs.KeptLists.{Ids, ids_of, Ids-part}
use Rattle.rules.proofs.KeptBoard.{limits, family, Good, good_of_lem, of_good, fit_at}
use Rattle.rules.proofs.KeptMoves.{Joins, joins_of}
use Rattle.rules.proofs.KeptReshapes.{IsChild, good_left, good_right, Watching, watch_keeps, no_seats}
use Rattle.tables.specs.Rows.{Rising, key_of, place_of, insert_at}
use Rattle.tables.proofs.Keys.{at_is, put_is_insert_at, first_most}
use Rattle.board.specs.Held.{Holds, no_reshape}
use Rattle.board.specs.Leaves.{change_at}
use Rattle.board.proofs.Fitting.{held_as, insert_length}
use Rattle.board.proofs.Keyed.{update_is_change, committees_rise, reshapes_rise}
use Rattle.board.proofs.Moves.{place_none}
use Rattle.reshapes.proofs.SeatMoves.{seats_in_row, seat_opened}

-- ---- one id

module _ (after : List ℕ) (b : Board) (t x : ℕ) where
  -- a place asks nothing of what was there
  pub set_watching : (e y : ℕ) (p : Place) → y ≡ x → e ≡ epoch_of b → p ≡ set_to_watch t e p → Holds after (place y (λ q. p) b) → Holds after (place x (set_to_watch t (epoch_of b)) b)
  set_watching e y p i n q h = rw (q, n, i) at h

  pub no_record : at x b.machines ≡ none → Holds after b → Holds after (place x (set_to_watch t (epoch_of b)) b)
  no_record n h = held_as after _ _ (sym (place_none b x _ n)) h

  pub watched : (c i : ℕ) → (get_or b.reshapes i no_reshape).key ≡ t
      → Holds after (on_reshapes (update (get_or b.reshapes i no_reshape).key (with_seats (put x (new_seat c)))) (join t x (place x (set_to_watch t (epoch_of b)) b))) → Holds after (watch t c x b)
  unfolding watch put_on
  watched c i named h = rw named at h

-- a seat for one that has none
pub seat_made : (after : List ℕ) (b : Board) (i k x c : ℕ) → Rising key_of b.reshapes → i < length b.reshapes → Rising key_of (seats_in_row i b) → at x (seats_in_row i b) ≡ none → k ≡ place_of key_of x (seats_in_row i b)
    → Holds after (on_reshapes (change_at no_reshape i (with_seats (λ t. insert_at t k (entry x (new_seat c))))) b)
    → Holds after (on_reshapes (update (get_or b.reshapes i no_reshape).key (with_seats (put x (new_seat c)))) b)
seat_made after b i k x c r l s n e h = held_as after _ _ (sym (seat_opened b _ i r l refl x (new_seat c) s n)) (rw e at h)

-- S, as far as a reshape has room for seats
pub size_is : (b : Board) → well_formed b ≡ true → (n r : ℕ) → n ≡ b.settings.size → (n ≤ most_seats → r ≡ n) → r ≡ size_of b
size_is b ok n r e k = k (omega (arith, e, (limits _ (good_of_lem b ok).settings).size)) ∙ e

-- what may join with others may join alone
may_one : {c : Board} {l : List Id} (t x : ℕ) → Good c → Joins t (x ∷ l) c → may_join t (x ∷ []) c ≡ true
unfolding may_join stands is_some occ
may_one {c} {l} t x g j =
    let none_yet : occ x (members_of t c) ≡ 0 = omega (arith, j.once x, hit_same x) in
    and_joins _ _ (opens (at t c.committees) refl)
    (and_joins _ _ (every_join _ x [] (not_of _ (has_occ x (members_of t c) ∙ rw none_yet)) (every_none _)) (of_le (length (members_of t c) + 1) most_members (omega (arith, j.few))))
  where
    opens : (o : Option (List Id)) → at t c.committees ≡ o → (is_some o or ltb (length c.committees) most_committees) ≡ true
    opens (some v) e = or_left _ _ refl
    opens none e =
        let n = ap length (put_is_insert_at c.committees (committees_rise c (of_good g)) t [] e) ∙ insert_length c.committees _ (entry t []) (first_most _ c.committees) in
        or_right _ _ (lt-ltb (length c.committees) most_committees (omega (arith, n, j.opens [])))

-- ---- several: n of them go left, and the rest right

unfoldable pub watch_from : Shard → List Id → ℕ → Board → Board
watch_from t [] n b = b
watch_from t (x ∷ l) zero b = watch_from t l zero (watch t (right_of t) x b)
watch_from t (x ∷ l) (suc n) b = watch_from t l n (watch t (left_of t) x b)

watch_each : (t : Shard) (l : List Id) (n : ℕ) (b : Board) → watch_from t l n b ≡ for_all (watch t (right_of t)) (drop n l) (for_all (watch t (left_of t)) (take n l) b)
unfolding watch_from for_all
watch_each t [] zero b = refl
watch_each t [] (suc n) b = refl
watch_each t (x ∷ l) zero b = watch_each t l zero (watch t (right_of t) x b)
watch_each t (x ∷ l) (suc n) b = watch_each t l n (watch t (left_of t) x b)

-- the child of the id at k, where half go left
abbrev child_at : Shard → ℕ → ℕ → Shard
child_at t half k = cond (ltb k half) (left_of t) (right_of t)

is_child : (t half k : ℕ) → IsChild t (child_at t half k)
is_child t half k = by_cases (IsChild t) (ltb k half) (left_of t) (right_of t) (λ e. good_left t) (λ e. good_right t)

watch_next : (t : Shard) (x : Id) (l : List Id) (half k : ℕ) (b : Board) → watch_from t (x ∷ l) (half - k) b ≡ watch_from t l (half - (k + 1)) (watch t (child_at t half k) x b)
unfolding watch_from
watch_next t x l half k b = go (ltb k half) refl
  where
    go : (c : Bool) → ltb k half ≡ c → watch_from t (x ∷ l) (half - k) b ≡ watch_from t l (half - (k + 1)) (watch t (cond c (left_of t) (right_of t)) x b)
    go true e =
        let n : half - k ≡ suc (half - (k + 1)) = omega (arith, ltb-true k half e) in
        ap (λ (m : ℕ). watch_from t (x ∷ l) m b) n
    go false e =
        let h = ltb-false k half e in
        let n : half - k ≡ 0 = omega arith in
        let m : half - (k + 1) ≡ 0 = omega arith in
        rw (n, m)

none_at : (s : Table Seat) (x : ℕ) → is_empty s ≡ true → at x s ≡ none
unfolding is_empty at
none_at [] x q = refl
none_at (y ∷ s) x q = absurd (false≢true q)

-- k of the ids watch
pub record Watched (t i : ℕ) (ids : List Id) (b : Board) (k : ℕ) (ws : List ℕ) : Type 0 where
  pub board : Board
  pub held : Holds ws board
  pub coming : Watching t (drop k ids) board
  pub row : i < length board.reshapes
  pub named : (get_or board.reshapes i no_reshape).key ≡ t
  pub absent : (x : ℕ) → 1 ≤ occ x (drop k ids) → at x (seats_in_row i board) ≡ none
  pub rest : watch_from t (drop k ids) (half_up (size_of b) - k) board ≡ watch_all t ids b

pub none_watched : (t i : ℕ) (ids : List Id) (b : Board) (ws : List ℕ) → Holds ws b → well_formed b ≡ true → i < length b.reshapes → (get_or b.reshapes i no_reshape).key ≡ t
    → is_empty (seats_in_row i b) ≡ true → good_ids most_seats ids ≡ true → may_join t ids b ≡ true → Watched t i ids b 0 ws
unfolding watch_all
none_watched t i ids b ws h ok l e empty good may = record {
  board = b;
  held = h;
  coming = record {
    good = g;
    joins = joins_of g t (family t (fit_at g t _ there).target).target (Ids-part its (omega (arith, its.room)) (λ x. omega arith)) may;
    seats = λ r q. omega (arith, ap (λ (o : Option Reshape). seats_in o) (sym there ∙ q), no_seats (seats_in_row i b) empty, its.room);
  };
  row = l;
  named = e;
  absent = λ x o. none_at (seats_in_row i b) x empty;
  rest = ap (λ (n : ℕ). watch_from t ids n b) whole ∙ watch_each t ids (half_up (size_of b)) b;
}
  where
    g : Good b
    g = good_of_lem b ok

    whole : half_up (size_of b) - 0 ≡ half_up (size_of b)
    whole = omega arith

    its : Ids most_seats ids
    its = ids_of most_seats ids good

    there : at t b.reshapes ≡ some (get_or b.reshapes i no_reshape).val
    there = at_is b.reshapes (reshapes_rise b ok) t i no_reshape l e

    seats_in : Option Reshape → ℕ
    seats_in none = 0
    seats_in (some r) = length r.seats

module _ (t i : ℕ) (ids : List Id) (b : Board) (k : ℕ) (ws : List ℕ) (w : Watched t i ids b k ws) where
  abbrev now : Board
  now = w.board

  ok : well_formed now ≡ true
  ok = of_good w.coming.good

  module _ (l : k < length ids) (x : ℕ) (e : x ≡ get_or ids k 0) where
    next : drop k ids ≡ x ∷ drop (k + 1) ids
    next = rw (add-one k, e) (drop-cons ids k 0 l)

    coming : Watching t (x ∷ drop (k + 1) ids) now
    coming = rw next at w.coming

    there : at t now.reshapes ≡ some (get_or now.reshapes i no_reshape).val
    there = at_is now.reshapes (reshapes_rise now ok) t i no_reshape w.row w.named

    -- the reshapes then
    abbrev child : Shard
    child = child_at t (half_up (size_of b)) k

    abbrev seated : Reshape
    seated = with_seats (put x (new_seat child)) (get_or now.reshapes i no_reshape).val

    then : (watch t child x now).reshapes ≡ set now.reshapes i (entry (get_or now.reshapes i no_reshape).key seated)
    unfolding watch put_on join place
    then = update_is_change now.reshapes (reshapes_rise now ok) t i no_reshape w.row w.named (with_seats (put x (new_seat child)))

    at_row : get_or (watch t child x now).reshapes i no_reshape ≡ entry (get_or now.reshapes i no_reshape).key seated
    at_row = ap (λ (r : Table Reshape). get_or r i no_reshape) then ∙ get_or-set_same now.reshapes i _ no_reshape w.row

    still_absent : (y : ℕ) → 1 ≤ occ y (drop (k + 1) ids) → at y (put x (new_seat child) (seats_in_row i now)) ≡ none
    unfolding occ
    still_absent y o = at_put y x (new_seat child) (seats_in_row i now) ∙ go (alike y x)
      where
        go : Alike y x → cond (eqb y x) (some (new_seat child)) (at y (seats_in_row i now)) ≡ none
        go (same p q) = absurd (omega (arith, rw p at o, coming.joins.once x, hit_same x))
        go (apart p q) = rw q (w.absent y (rw next (omega arith)))

    pub one_watched : (d : Shard) → d ≡ child → (after : List ℕ)
        → ((c : Board) → Holds ws c → well_formed c ≡ true → i < length c.reshapes → (get_or c.reshapes i no_reshape).key ≡ t → may_join t (x ∷ []) c ≡ true → length (seats_in_row i c) < most_seats
        → at x (seats_in_row i c) ≡ none → Holds after (watch t d x c))
        → Watched t i ids b (k + 1) after
    unfolding occ
    one_watched d p after step = record {
      board = watch t child x now;
      held = rw p at (step now w.held ok w.row w.named (may_one t x coming.good coming.joins) (omega (arith, coming.seats _ there)) (w.absent x (rw next (omega (arith, hit_same x)))));
      coming = watch_keeps t child (is_child t (half_up (size_of b)) k) x (drop (k + 1) ids) now coming;
      row = rw then (rw length-set w.row);
      named = ap (λ (r : Entry Reshape). r.key) at_row ∙ w.named;
      absent = λ y o. ap (λ (r : Entry Reshape). at y r.val.seats) at_row ∙ still_absent y o;
      rest = sym (ap (λ (r : List Id). watch_from t r (half_up (size_of b) - k) now) next ∙ watch_next t x (drop (k + 1) ids) (half_up (size_of b)) k now) ∙ w.rest;
    }

  pub all_watched : length ids ≤ k → Holds ws (watch_all t ids b)
  unfolding watch_from
  all_watched l = held_as ws _ _ (ap (λ (r : List Id). watch_from t r (half_up (size_of b) - k) now) (sym (drop_of_length-le ids {i = k} l)) ∙ w.rest) w.held
