-- The steps on one reshape keep a board good.
use mathlib.Core.Path.{◌≡◌, refl, sym, subst, ◌∙◌}
use mathlib.Core.Logic.{◌⊎◌, inl, inr}
use mathlib.Core.List.{List, [], ◌∷◌, ◌++◌}
use mathlib.Core.Option.{Option, none, some, map, none-ne-some, some-injective}
use mathlib.Core.Bool.{Bool, true, false, false≢true}
use Prim.Native.Nat.{ℕ, suc, ◌+◌, ◌/◌, ◌≤◌, ◌<◌}
use native.Mathlib.Omega.{arith}
use lib.Dec.{eqb}
use lib.ListN.{length, take, drop, length-take, take-append-drop}
use Rattle.types.specs.Numbers.{Shard, Id}
use Rattle.types.specs.Shards.{left_of, right_of}
use Rattle.types.specs.Places.{is_pooled, observes, set_to_watch}
use Rattle.rules.specs.Lists.{◌and◌, ◌or◌, is_empty, sort}
use Rattle.rules.specs.Table.{entry, Table, at, put, update}
use Rattle.rules.specs.Board.{Kind, split, merge, Seat, Reshape, Board, most_reshapes, most_seats, epoch_of, size_of}
use Rattle.rules.specs.WellFormed.{is_target, is_word, good_option, good_seat, good_quiet}
use Rattle.rules.specs.Moves.{pool_of, members_of, place, join, put_on, for_all, with_seats, is_kind, new_seat, watch}
use Rattle.rules.specs.Reshapes.{half_up, new_reshape, admit, admission_faults, admit_split, seated_members, keepers_of, seat_all, draw_keepers, admit_merge, ready_seat, mark_seat_ready, has_side, quieted, mark_quiet, awaits_cohort, watch_all, cohort_turn, draw_cohort, cohort_of, released, lapse}
use Rattle.rules.proofs.Counts.{eqb_same, hit_same, occ, occ_append, occ_take}
use Rattle.rules.proofs.Tests.{of_no, and_parts, and_joins, or_cases, or_left, or_right, of_not, lt_of_no, eq_of}
use Rattle.rules.proofs.KeptLists.{Part, part_keep, part_occ, occ_sort, Ids, Ids-none, Ids-part}
use Rattle.rules.proofs.KeptTables.{length_put, Rows, Rows-none, Rows-within, Rows-put, Rows-update, once_keys_where, holds_at_lem, at_update}
use Rattle.rules.proofs.KeptBoard.{limits, family, Fit, of_fit, Fit-seats, Fit-quiet, Good, on_reshapes_lem, stamp_now}
use Rattle.rules.proofs.KeptMoves.{Keeps, keeps_set_to_watch, members_good, Words, Joins, joins_of, Joins-reshapes, good_put_on, Joins-put_on, good_release, for_all_counts, for_all_all, good_reshape_lem}
use Rattle.rules.proofs.Turns.{for_all_keeps, Draws, and_then_draws, Mixed, shuffle_draws, Finishes, checked_finishes, drawn_finishes, step_keeps}
use Rattle.rules.proofs.KeptPlaces.{pool_word}

-- ---- ADMISSIONS

admit_finishes : (k : Kind) (t : Shard) (handled : ℕ) (seats : Table Seat) (draws : List ℕ) (b : Board) → is_target t ≡ true → Rows most_seats (good_seat t) seats → Good b → Finishes Good (admit k t handled seats draws b)
unfolding admit good_option good_quiet is_empty ◌and◌
admit_finishes k t handled seats draws b ok s h = checked_finishes Good _ _ (λ p.
    let r : length b.reshapes < most_reshapes = lt_of_no _ _ p.0 in
    on_reshapes_lem h (put t (new_reshape k seats b)) (Rows-within (omega (arith, length_put t (new_reshape k seats b) b.reshapes)) (Rows-put t (new_reshape k seats b) (of_fit fresh) h.reshapes)))
  where
    quiet : (j : Kind) → good_quiet j false ≡ true
    quiet split = refl
    quiet merge = refl

    fresh : Fit t (new_reshape k seats b)
    fresh =
        record { target = ok; admitted = stamp_now h; drain_by = refl; terminal = refl; quiet = quiet k; seats = s; left = Ids-none _; right = Ids-none _; halves = or_right _ _ refl }

pub good_admit_split : (t : Shard) (b : Board) → Good b → Good (admit_split t b).board
unfolding admit_split admission_faults
good_admit_split t b h = step_keeps Good _ b _ _ h (λ p. admit_finishes split t 1 [] [] b (of_no _ p.1.0) (Rows-none _ _) h)

-- a seat for a child of the target is good
abbrev pub IsChild : Shard → Shard → Type 0
IsChild t c = (x : Id) → is_word x ≡ true → good_seat t (entry x (new_seat c)) ≡ true

pub good_left : (t : Shard) → IsChild t (left_of t)
unfolding good_seat
good_left t x w = and_joins _ _ w (or_left _ _ (eqb_same (left_of t)))

pub good_right : (t : Shard) → IsChild t (right_of t)
unfolding good_seat
good_right t x w = and_joins _ _ w (or_right _ _ (eqb_same (right_of t)))

seat_all_rows : (t c : Shard) → IsChild t c → (n : ℕ) (l : List Id) → Words l → (seats : Table Seat) → Rows n (good_seat t) seats → Rows (n + length l) (good_seat t) (seat_all c l seats)
unfolding seat_all occ
seat_all_rows t c g n [] w seats h = Rows-within (omega (arith, h.room)) h
seat_all_rows t c g n (x ∷ l) w seats h =
    let k = seat_all_rows t c g (suc n) l (λ y o. w y (omega arith)) (put x (new_seat c) seats) (Rows-put x (new_seat c) (g x (w x (omega (arith, hit_same x)))) h) in
    Rows-within (omega (arith, k.room)) k

-- keepers: no more than their share, and each a member
record Keepers (share : ℕ) (l : List Id) : Type 0 where
  few : length l ≤ share
  words : Words l

seated_part : (r : Bool) (c : Shard) (b : Board) → Part (seated_members r c b) (members_of c b)
unfolding seated_members
seated_part true c b = part_keep _ (members_of c b)
seated_part false c b = part_keep _ (members_of c b)

-- a shuffle of some members has only members
mixed_occ : (r : Bool) (c : Shard) (b : Board) {l : List Id} → Mixed (sort (seated_members r c b)) l → (x : ℕ) → occ x l ≤ occ x (members_of c b)
mixed_occ r c b m x = omega (arith, m.ids x, occ_sort x (seated_members r c b), part_occ x (seated_part r c b))

keepers_draw : (c : Shard) (share : ℕ) (b : Board) (draws : List ℕ) → Good b → Draws (Keepers share) (keepers_of c share b draws)
unfolding keepers_of
keepers_draw c share b draws h =
    and_then_draws (Mixed (sort (seated_members true c b))) _ _ _ (shuffle_draws _ draws) (λ ready left p.
    and_then_draws (Mixed (sort (seated_members false c b))) _ _ _ (shuffle_draws _ left) (λ waiting rest q.
    record {
      few = rw length-take (omega arith);
      words = λ x o. (members_good h c).words x (omega (arith, o, occ_take x share (ready ++ waiting), occ_append x ready waiting, mixed_occ true c b p x, mixed_occ false c b q x));
    }))

draw_keepers_draw : (t : Shard) (b : Board) (draws : List ℕ) → Good b → Draws (Rows most_seats (good_seat t)) (draw_keepers t b draws)
unfolding draw_keepers
draw_keepers_draw t b draws h =
    and_then_draws (Keepers (half_up (size_of b))) _ _ _ (keepers_draw (left_of t) _ b draws h) (λ lefts left p.
    and_then_draws (Keepers (size_of b / 2)) _ _ _ (keepers_draw (right_of t) _ b left h) (λ rights rest q.
    let k = seat_all_rows t (right_of t) (good_right t) _ rights q.words _ (seat_all_rows t (left_of t) (good_left t) 0 lefts p.words [] (Rows-none 0 (good_seat t))) in
    Rows-within (omega (arith, k.room, p.few, q.few, (limits _ h.settings).size)) k))

pub good_admit_merge : (t : Shard) (draws : List ℕ) (b : Board) → Good b → Good (admit_merge t draws b).board
unfolding admit_merge admission_faults
good_admit_merge t draws b h =
    step_keeps Good _ b _ _ h (λ p.
    drawn_finishes Good (Rows most_seats (good_seat t)) _ _ (draw_keepers_draw t b draws h) (λ keepers left k. admit_finishes merge t (length keepers) keepers left b (of_no _ p.1.0) k h))

-- ---- MARKS

pub good_mark_seat_ready : (t : Shard) (x : Id) (b : Board) → Good b → Good (mark_seat_ready t x b).board
unfolding mark_seat_ready good_seat
good_mark_seat_ready t x b h =
    step_keeps Good _ b _ _ h (λ p.
    good_reshape_lem t (with_seats (update x ready_seat)) (λ r e f. Fit-seats (update x ready_seat) (Rows-update x ready_seat (λ q a g. g) f.seats) f) h)

-- a split has side 0 only, so its right stays 0
quiet_side : (r : Reshape) (side : ℕ) → (eqb side 0 or is_kind merge r) ≡ true → good_quiet r.kind r.quiet_right ≡ true → good_quiet r.kind (r.quiet_right or eqb side 1) ≡ true
unfolding is_kind good_quiet ◌or◌
quiet_side r side u g = go r.kind (or_cases _ _ u) g
  where
    go : (k : Kind) → (eqb side 0 ≡ true) ⊎ ((elim k as (λ j. Bool) [ split ↦ false | merge ↦ true ]) ≡ true) → good_quiet k r.quiet_right ≡ true → good_quiet k (r.quiet_right or eqb side 1) ≡ true
    go split (inl e) q = rw (of_not r.quiet_right q, eq_of side 0 e)
    go split (inr e) q = absurd (false≢true e)
    go merge e q = refl

pub good_mark_quiet : (t : Shard) (side : ℕ) (b : Board) → Good b → Good (mark_quiet t side b).board
unfolding mark_quiet quieted has_side
good_mark_quiet t side b h =
    step_keeps Good _ b _ _ h (λ p.
    good_reshape_lem t (quieted side) (λ r e f. Fit-quiet (λ q. q or eqb side 0) (λ q. q or eqb side 1) (quiet_side r side (sym (holds_at_lem t (λ q. eqb side 0 or is_kind merge q) b.reshapes r e) ∙ of_no _ p.1.1.1.0) f.quiet) f) h)

-- ---- DRAW COHORT

-- a board on which those of a list are still to watch
pub record Watching (t : Shard) (l : List Id) (b : Board) : Type 0 where
  pub good : Good b
  pub joins : Joins t l b
  pub seats : (r : Reshape) → at t b.reshapes ≡ some r → length r.seats + length l ≤ most_seats

pub watch_keeps : (t c : Shard) → IsChild t c → (x : Id) (l : List Id) (b : Board) → Watching t (x ∷ l) b → Watching t l (watch t c x b)
unfolding watch put_on join place occ
watch_keeps t c g x l b w = record {
  good = good_reshape_lem t add (λ r e f. Fit-seats (put x (new_seat c)) (Rows-within (omega (arith, length_put x (new_seat c) r.seats, w.seats r e)) (Rows-put x (new_seat c) (g x (w.joins.words x (omega (arith, hit_same x)))) f.seats)) f) on;
  joins = Joins-reshapes t (update t add) (Joins-put_on t (set_to_watch t (epoch_of b)) keeps x w.joins w.good);
  seats = λ r e. go (at t b.reshapes) refl r (sym (at_update t add b.reshapes) ∙ e);
}
  where
    add : Reshape → Reshape
    add = with_seats (put x (new_seat c))

    keeps : Keeps (set_to_watch t (epoch_of b))
    keeps = keeps_set_to_watch t w.joins.shard (epoch_of b) (stamp_now w.good)

    on : Good (put_on t (set_to_watch t (epoch_of b)) x b)
    on = good_put_on t (set_to_watch t (epoch_of b)) keeps x w.joins w.good

    go : (o : Option Reshape) → at t b.reshapes ≡ o → (r : Reshape) → map add o ≡ some r → length r.seats + length l ≤ most_seats
    go none a r e = absurd (none-ne-some r e)
    go (some q) a r e = subst (λ u. length u.seats + length l ≤ most_seats) (some-injective (add q) r e) (omega (arith, length_put x (new_seat c) q.seats, w.seats q a))

good_watch_all : (t : Shard) (ids : List Id) (b : Board) → Watching t ids b → Good (watch_all t ids b)
unfolding watch_all
good_watch_all t ids b w =
    let n = half_up (size_of b) in
    let l : Watching t (drop n ids) (for_all (watch t (left_of t)) (take n ids) b) = for_all_counts (Watching t) _ (watch_keeps t (left_of t) (good_left t)) (take n ids) (drop n ids) b (rw take-append-drop w) in
    (for_all_all (Watching t) _ (watch_keeps t (right_of t) (good_right t)) (drop n ids) _ l).good

pub no_seats : (l : Table Seat) → is_empty l ≡ true → length l ≡ 0
unfolding is_empty
no_seats [] e = refl
no_seats (x ∷ l) e = absurd (false≢true e)

-- the first S of a shuffled pool
pub chosen : {b : Board} → Good b → (ids : List Id) → Mixed (pool_of b) ids → Ids most_seats (take (size_of b) ids)
unfolding pool_of
chosen {b} h ids m = record {
  room = rw length-take (omega (arith, (limits _ h.settings).size));
  words = λ x o. pool_word h x (omega (arith, o, occ_take x (size_of b) ids, m.ids x));
  once = λ x. omega (arith, occ_take x (size_of b) ids, m.ids x, once_keys_where is_pooled x b.machines h.machines.rising);
}

pub good_draw_cohort : (t : Shard) (draws : List ℕ) (b : Board) → Good b → Good (draw_cohort t draws b).board
unfolding draw_cohort cohort_turn awaits_cohort
good_draw_cohort t draws b h =
    step_keeps Good _ b _ _ h (λ p.
    drawn_finishes Good (Mixed (pool_of b)) _ _ (shuffle_draws (pool_of b) draws) (λ ids left m.
    checked_finishes Good _ _ (λ q.
    let k = chosen h ids m in
    good_watch_all t (take (size_of b) ids) b (record {
      good = h;
      joins = joins_of h t (family t (of_no _ p.1.0)).target (Ids-part k (omega (arith, k.room)) (λ x. omega arith)) (of_no _ q.0);
      seats = λ r e.
          let s = sym (holds_at_lem t awaits_cohort b.reshapes r e) ∙ of_no _ p.1.1.0 in
          omega (arith, no_seats r.seats (and_parts _ _ (and_parts _ _ s).1).1, k.room);
    }))))

-- ---- LAPSE

pub good_lapse : (t : Shard) (b : Board) → Good b → Good (lapse t b).board
unfolding lapse released
good_lapse t b h =
    step_keeps Good _ b _ _ h (λ p.
    good_reshape_lem t (with_seats (λ seats. [])) (λ r e f. Fit-seats (λ seats. []) (Rows-none _ _) f)
    (for_all_keeps Good _ (λ x c. good_release t (observes t) x) (cohort_of t b) b h))
