-- The steps on reshapes up to their schedule keep the seat check: admissions, marks, the cohort's draw, the lapse, the schedules.
use mathlib.Core.Path.{◌≡◌, refl, ap, sym, ◌∙◌}
use mathlib.Core.Logic.{◌≢◌}
use mathlib.Core.List.{List, [], ◌∷◌, ◌++◌, append-nil}
use mathlib.Core.Option.{Option, none, some}
use mathlib.Core.Bool.{Bool, true, false, cond, not}
use Prim.Native.Nat.{ℕ, ◌+◌, ◌*◌, ◌≤◌}
use native.Mathlib.Omega.{arith}
use lib.ListN.{length, take, drop, take-append-drop}
use Rattle.types.specs.Numbers.{Shard, Id, Epoch}
use Rattle.types.specs.Shards.{left_of, right_of}
use Rattle.types.specs.Places.{is_pooled, is_seated_on, observes, set_to_watch}
use Rattle.types.specs.declared.Place.TheVariants.{Pooled, Seated, Observing}
use Rattle.types.specs.declared.Answer.TheVariants.{NoBoundary}
use Rattle.rules.specs.Lists.{◌and◌, bit_of, is_empty}
use Rattle.rules.specs.Table.{Table, at, holds_at, put, update, keys_where, keys_of, is_some}
use Rattle.rules.specs.Board.{Boundary, Kind, split, merge, Seat, Reshape, Board, on_bounds, on_rotations, on_reshapes, epoch_of, size_of}
use Rattle.rules.specs.Draws.{drew, shuffle}
use Rattle.rules.specs.Moves.{pool_of, says, members_of, place, join, quit, put_on, take_off, for_all, pooled_from, drop_rotations, entrants_on, abort_rotations, with_seats, with_drain_by, with_terminal, is_kind, reshape_at, new_seat, watch, old_shards, bounds_stand}
use Rattle.rules.specs.Turns.{finished, ◌gives◌, checked}
use Rattle.rules.specs.Reshapes.{half_up, ready_seat, mark_seat_ready, quieted, mark_quiet, awaits_cohort, watch_all, cohort_turn, draw_cohort, cohort_of, released, lapse}
use Rattle.rules.specs.Schedule.{unscheduled, is_quiet, scheduled, drain_end, drain_or_schedule, seated_there, split_gate, pass_gate, halve, schedule_split, schedule_splits, merge_gate, schedule_merge, schedule_merges}
use Rattle.rules.proofs.Counts.{Alike, same, apart, alike, eqb_same, hit, hit_same, hit_apart, occ, occ_append, occ_take, occ_keep, shuffle_keeps}
use Rattle.rules.proofs.Tables.{From, tally, tally_update, tally_same, known_most, occ_keys_where}
use Rattle.rules.proofs.Tests.{and_parts, of_no}
use Rattle.rules.proofs.KeptLists.{occ_sort}
use Rattle.rules.proofs.KeptTables.{at_keys_where}
use Rattle.rules.proofs.SeatsLaws.{bit_yes, bit_no, bit_most, and_most, holds_bit, tally_le}
use Rattle.rules.proofs.SeatsFormed.{Formed}
use Rattle.rules.proofs.Seats.{seats_at, watches_at, pooled_at, unit, told, in_c, of_split, sitting, in_split, sched_at, half_at, party, kind_at, Frame-same, Seats, seats_most, seat_of, watch_of, pool_of_lem, here_sum, here_most, seats_bit, nowhere_pooled, moved}
use Rattle.rules.proofs.SeatsMoves.{for_all_swap, occ_members, no_seats, kind_of_lem, kind_is, steady_seats, kind_update, split_n, split_bit, split_at, fewer_keep, unseen_keeps, Leaving, left_all, leaving, unwatch_keeps, watch_keeps}
use Rattle.rules.proofs.SeatsRotations.{party_gone, party_fewer, entrants_party}
use Rattle.rules.proofs.Turns.{for_all_keeps, Finishes, checked_finishes, drawn_told, alone_keeps, batch_keeps}
use Rattle.rules.proofs.SeatsPlaces.{unseat_pooled}

-- ---- MARKS

pub mark_seat_ready_kept : (t : Shard) (x : Id) (b : Board) → Seats b → Seats (mark_seat_ready t x b).board
unfolding mark_seat_ready
mark_seat_ready_kept t x b h = alone_keeps Seats [] b _ h (checked_finishes Seats _ _ (λ p.
    unseen_keeps t (with_seats (update x ready_seat)) b (steady_seats (update x ready_seat)) (λ y r. ap (of_split r.kind) (tally_same unit ready_seat (λ q. refl) y x r.seats)) h))

pub mark_quiet_kept : (t : Shard) (side : ℕ) (b : Board) → Seats b → Seats (mark_quiet t side b).board
unfolding mark_quiet quieted
mark_quiet_kept t side b h = alone_keeps Seats [] b _ h (checked_finishes Seats _ _ (λ p.
    unseen_keeps t (quieted side) b (record { kind = λ r. refl; sched = λ r. refl; halves = λ x r. refl }) (λ x r. refl) h))

-- ---- DRAW COHORT

-- the ids of a list are still to come, each once, all pooled, and the split stands
record Coming (t : Shard) (rest : List Id) (b : Board) : Type 0 where
  ok : Seats b
  free : (x : Id) → occ x rest ≤ told pooled_at b x
  there : split_n b t ≡ 1

come_one : (t c : Shard) (x : Id) (rest : List Id) (b : Board) → Coming t (x ∷ rest) b → Coming t rest (watch t c x b)
unfolding watch put_on join place occ
come_one t c x rest b h = record {
  ok = watch_keeps t c x b e h.there h.ok;
  free = λ y. omega (arith, moved pooled_at x y (set_to_watch t (epoch_of b)) Pooled b.machines e, h.free y);
  there = tally_same (λ r. of_split r.kind 1) (with_seats (put x (new_seat c))) (λ r. refl) t t b.reshapes ∙ h.there;
}
  where
    e : at x b.machines ≡ some Pooled
    e = pool_of_lem (at x b.machines) (omega (arith, h.free x, hit_same x))

come_all : (t c : Shard) (l rest : List Id) (b : Board) → Coming t (l ++ rest) b → Coming t rest (for_all (watch t c) l b)
unfolding for_all
come_all t c [] rest b h = h
come_all t c (x ∷ l) rest b h = come_all t c l rest (watch t c x b) (come_one t c x (l ++ rest) b h)

watch_all_lem : (t : Shard) (ids : List Id) (b : Board) → Coming t ids b → Seats (watch_all t ids b)
unfolding watch_all
watch_all_lem t ids b h =
    let n = half_up (size_of b) in
    let first = come_all t (left_of t) (take n ids) (drop n ids) b (rw take-append-drop h) in
    (come_all t (right_of t) (drop n ids) [] (for_all (watch t (left_of t)) (take n ids) b) (rw append-nil first)).ok

-- a split that awaits its cohort is a split
awaits_split : (t : Shard) (b : Board) → holds_at t awaits_cohort b.reshapes ≡ true → split_n b t ≡ 1
unfolding awaits_cohort
awaits_split t b h =
    omega (
      arith,
      sym (holds_bit awaits_cohort (λ r. bit_of (awaits_cohort r)) (λ r. refl) t b.reshapes) ∙ bit_yes _ h,
      tally_le _ _ less (at t b.reshapes),
      tally_le _ _ most (at t b.reshapes),
      known_most (at t b.reshapes),
    )
  where
    less : (r : Reshape) → bit_of (awaits_cohort r) ≤ of_split r.kind 1
    less r = omega (arith, and_most (is_kind split r) (not (is_some r.terminal) and is_empty r.seats), split_bit r)

    most : (r : Reshape) → of_split r.kind 1 ≤ 1
    most r = omega (arith, bit_most (is_kind split r), split_bit r)

pub draw_cohort_kept : (t : Shard) (draws : List ℕ) (b : Board) → Formed b → Seats b → Seats (draw_cohort t draws b).board
unfolding draw_cohort cohort_turn pool_of
draw_cohort_kept t draws b wf h = alone_keeps Seats draws b _ h (checked_finishes Seats _ _ (λ p. drawn_told Seats (shuffle (pool_of b) draws) _ (λ ids left e. checked_finishes Seats _ _ (λ q.
    watch_all_lem t (take (size_of b) ids) b (record {
      ok = h;
      free = λ x. omega (arith, occ_take x (size_of b) ids, (shuffle_keeps x (pool_of b) draws ids left e).1, occ_keys_where is_pooled x 0 b.machines wf.ids);
      there = awaits_split t b (of_no _ p.1.1.0);
    })))))

-- ---- LAPSE

lapse_all : (t : Shard) (l : List Id) (b : Board) → Leaving t l b → Leaving t [] (for_all (take_off t (pooled_from (observes t))) l b)
unfolding for_all occ seats_at watches_at
lapse_all t [] b h = h
lapse_all t (x ∷ l) b h =
    let q = watch_of t (at x b.machines) (omega (arith, simp hit_same at (h.watchers t x))) in
    lapse_all t l (take_off t (pooled_from (observes t)) x b)
    (unwatch_keeps t (pooled_from (observes t)) x (Observing q.0 q.1) l b q.2 (λ s. rw q.3) (λ s. refl) (rw (q.3, eqb_same) nowhere_pooled) h)

-- the ids of a cohort are those with a seat in the split
cohort_occ : (t : Shard) (x : Id) (b : Board) → Formed b → split_n b t ≡ 1 → occ x (cohort_of t b) ≡ in_split b t x
unfolding cohort_of keys_of tally of_split occ
cohort_occ t x b wf sp = go (at t b.reshapes) refl sp
  where
    per : (k : Kind) (seats : Table Seat) → of_split k 1 ≡ 1 → From 0 seats → occ x (keys_where (λ v. true) seats) ≡ of_split k (tally unit (at x seats))
    per split seats z r = occ_keys_where (λ v. true) x 0 seats r
    per merge seats z r = absurd (omega arith)

    go : (o : Option Reshape) → at t b.reshapes ≡ o → tally (λ r. of_split r.kind 1) o ≡ 1 → occ x (elim o [ none ↦ [] | some r ↦ keys_where (λ v. true) r.seats ]) ≡ tally (sitting x) o
    go none e z = refl
    go (some r) e z = per r.kind r.seats z (wf.sound t r e).rows

released_keeps : (t : Shard) (b : Board) → Formed b → split_n b t ≡ 1 → Seats b → Seats (released t b)
unfolding released take_off quit place tally
released_keeps t b wf sp h =
    rw (for_all_swap (on_reshapes (update t (with_seats (λ seats. [])))) (take_off t (pooled_from (observes t))) (λ x c. refl) (cohort_of t b) b)
    (left_all t _ (lapse_all t (cohort_of t b) _ (leaving t (with_seats (λ seats. [])) (cohort_of t b) b (steady_seats (λ seats. [])) gone h)))
  where
    bare : (x : Id) (o : Option Reshape) → tally (λ r. sitting x (with_seats (λ seats. []) r)) o ≡ 0
    bare x none = refl
    bare x (some r) = no_seats x r.kind

    gone : (s : Shard) (x : Id) → in_split (on_reshapes (update t (with_seats (λ seats. []))) b) s x + hit s t * occ x (cohort_of t b) ≡ in_split b s x
    gone s x = rw (cohort_occ t x b wf sp) (omega (arith, rw (bare x (at t b.reshapes)) at (tally_update (sitting x) s t (with_seats (λ seats. [])) b.reshapes)))

split_there : (t : Shard) (b : Board) → reshape_at split t b ≡ true → split_n b t ≡ 1
split_there t b h = sym (split_at t b) ∙ bit_yes _ h

pub lapse_kept : (t : Shard) (b : Board) → Formed b → Seats b → Seats (lapse t b).board
unfolding lapse
lapse_kept t b wf h = alone_keeps Seats [] b _ h (checked_finishes Seats _ _ (λ p. released_keeps t b wf (split_there t b (of_no _ p.1.1.0)) h))

-- ---- SCHEDULES

-- the rotations of a shard gone, their entrants leave it
abort_all : (s : Shard) (l : List Id) (b : Board) → ((x : Id) → occ x l ≤ told (seats_at s) b x) → ((x : Id) → party s x b.rotations ≡ 0) → Seats b
    → Seats (for_all (take_off s (pooled_from (is_seated_on s))) l b)
unfolding for_all occ take_off quit place seats_at tally
abort_all s [] b o free h = h
abort_all s (x ∷ l) b o free h =
    let q = seat_of s (at x b.machines) (omega (arith, o x, hit_same x)) in
    abort_all s l (take_off s (pooled_from (is_seated_on s)) x b)
    (λ y. omega (arith, simp (q.4, eqb_same, hit_same s) at (moved (seats_at s) x y (pooled_from (is_seated_on s)) (Seated q.0 q.1 q.2) b.machines q.3), o y))
    free (unseat_pooled s x b (omega (arith, o x, hit_same x)) (free x) h)

abort_keeps : (s : Shard) (b : Board) → Seats b → Seats (abort_rotations s b)
unfolding abort_rotations take_off quit place
abort_keeps s b h =
    rw (for_all_swap (on_rotations (drop_rotations s)) (take_off s (pooled_from (is_seated_on s))) (λ x c. refl) (entrants_on s b.rotations) b)
    (abort_all s (entrants_on s b.rotations) (on_rotations (drop_rotations s) b)
    (λ x. omega (arith, entrants_party s x b.rotations, h.parties s x))
    (λ x. party_gone s x b.rotations)
    (fewer_keep (drop_rotations s) b (λ t y. party_fewer s t y b.rotations) h))

abort_party : (s : Shard) (x : Id) (b : Board) → party s x (abort_rotations s b).rotations ≡ 0
unfolding abort_rotations
abort_party s x b = party_gone s x _

-- a boundary's marks
bounds_keep : (c : Shard) (f : Boundary → Boundary) (b : Board) → Seats b → Seats (on_bounds (update c f) b)
bounds_keep c f b h = record {
  members = h.members;
  watchers = h.watchers;
  parties = h.parties;
  calm = h.calm;
  halved = h.halved;
  frame = Frame-same (λ t. refl) (λ t. refl) (λ t e. tally_same unit f (λ v. refl) t c b.bounds ∙ e) h.frame;
}

-- a terminal and halves are stored; a split has no rotations and its halves hold each machine that is seated there, once
terminal_keeps : (t : Shard) (e : Epoch) (l m : List Id) (r : Reshape) (b : Board) → at t b.reshapes ≡ some r
    → (1 ≤ of_split r.kind 1 → ((x : Id) → party t x b.rotations ≡ 0) × ((x : Id) → occ x l + occ x m ≡ told (seats_at t) b x))
    → Seats b → Seats (on_reshapes (update t (with_terminal e l m)) b)
unfolding tally
terminal_keeps t e l m r b er fit h = record {
  members = h.members;
  watchers = λ s x. tally_same (sitting x) (with_terminal e l m) (λ q. refl) s t b.reshapes ∙ h.watchers s x;
  parties = h.parties;
  calm = λ s x k. calm s x k (alike s t);
  halved = λ s x k n. halved s x k n (alike s t);
  frame = Frame-same (λ s. kind_update t s (with_terminal e l m) b.reshapes (λ q. refl)) (λ s. refl) (λ s k. k) h.frame;
}
  where
    -- what is told of the reshape here, and of the others
    own : (g : Reshape → ℕ) → tally g (at t (update t (with_terminal e l m) b.reshapes)) ≡ g (with_terminal e l m r)
    own g = omega (arith, simp (er, hit_same) at (tally_update g t t (with_terminal e l m) b.reshapes))

    others : (g : Reshape → ℕ) (s : Shard) → s ≢ t → tally g (at s (update t (with_terminal e l m) b.reshapes)) ≡ tally g (at s b.reshapes)
    others g s p = omega (arith, simp (hit_apart s t p) at (tally_update g s t (with_terminal e l m) b.reshapes))

    calm : (s : Shard) (x : Id) → 1 ≤ tally sched_at (at s (update t (with_terminal e l m) b.reshapes)) → Alike s t → party s x b.rotations ≡ 0
    calm s x k (same p v) = rw p ((fit (omega (arith, own sched_at, rw p at k))).0 x)
    calm s x k (apart p v) = h.calm s x (rw (others sched_at s p) at k)

    halved : (s : Shard) (x : Id) → 1 ≤ tally sched_at (at s (update t (with_terminal e l m) b.reshapes)) → 1 ≤ told (seats_at s) b x → Alike s t
        → tally (half_at x) (at s (update t (with_terminal e l m) b.reshapes)) ≡ 1
    halved s x k n (same p v) = rw p (omega (arith, own (half_at x), (fit (omega (arith, own sched_at, rw p at k))).1 x, rw p at n, seats_most t (at x b.machines)))
    halved s x k n (apart p v) = others (half_at x) s p ∙ h.halved s x (rw (others sched_at s p) at k) n

-- draining, then the terminal: what holds of the board, of a drain stamp, of a terminal, and is left by a boundary's marks
drain_ends : (P : Board → Type 0) (t : Shard) (r : Reshape) (left right : List Id) (draws : List ℕ) (b : Board)
    → ((c : Shard) (f : Boundary → Boundary) (d : Board) → P d → P (on_bounds (update c f) d)) → P (on_reshapes (update t (with_drain_by (drain_end b))) b)
    → P (on_reshapes (update t (with_terminal (epoch_of b + 1) left right)) b) → P b → Finishes P (drain_or_schedule t r left right draws b)
unfolding drain_or_schedule scheduled
drain_ends P t r left right draws b marks drain set p = go r.drain_by
  where
    quiet : (c : Bool) → Finishes P (cond c (checked (not (bounds_stand r.kind t b) gives NoBoundary ∷ []) (finished 1 draws (scheduled t r left right b))) (finished 0 draws b))
    quiet true = checked_finishes P _ _ (λ k. for_all_keeps P _ (λ s d. marks s _ d) (old_shards r.kind t) _ set)
    quiet false = p

    go : (o : Option Epoch) → Finishes P (elim o [
      | none ↦ finished 0 draws (on_reshapes (update t (with_drain_by (drain_end b))) b)
      | some e ↦ cond (is_quiet r) (checked (not (bounds_stand r.kind t b) gives NoBoundary ∷ []) (finished 1 draws (scheduled t r left right b))) (finished 0 draws b)
    ])
    go none = drain
    go (some e) = quiet (is_quiet r)

-- a drain stamp is not counted
drain_keeps : (t : Shard) (e : Epoch) (b : Board) → Seats b → Seats (on_reshapes (update t (with_drain_by e)) b)
drain_keeps t e b h = unseen_keeps t (with_drain_by e) b (record { kind = λ r. refl; sched = λ r. refl; halves = λ x r. refl }) (λ x r. refl) h

-- the members seated there are the machines seated there, each once
seated_occ : (t : Shard) (x : Id) (b : Board) → Seats b → occ x (seated_there t b) ≡ told (seats_at t) b x
unfolding seated_there
seated_occ t x b h = occ_sort x _ ∙ occ_keep (says (is_seated_on t) b) x (members_of t b) ∙ rw (occ_members b t x) (go (says (is_seated_on t) b x) refl)
  where
    bit : bit_of (says (is_seated_on t) b x) ≡ told (seats_at t) b x
    bit = holds_bit (is_seated_on t) (seats_at t) (seats_bit t) x b.machines

    go : (c : Bool) → says (is_seated_on t) b x ≡ c → cond c (in_c b t x) 0 ≡ told (seats_at t) b x
    go true e = omega (arith, bit, bit_yes (says (is_seated_on t) b x) e, h.members t x, here_sum t (at x b.machines), here_most t (at x b.machines))
    go false e = sym (sym bit ∙ bit_no _ e)

halves_occ : (t : Shard) (k : ℕ) (draws ids left : List ℕ) (b : Board) → Seats b → shuffle (seated_there t b) draws ≡ drew ids left → (x : Id)
    → occ x (take k ids) + occ x (drop k ids) ≡ told (seats_at t) b x
halves_occ t k draws ids left b h e x = sym (occ_append x (take k ids) (drop k ids)) ∙ rw take-append-drop ((shuffle_keeps x (seated_there t b) draws ids left e).1 ∙ seated_occ t x b h)

gate_ends : (t : Shard) (left right : List Id) (draws : List ℕ) (b : Board) → ((x : Id) → party t x b.rotations ≡ 0) → ((x : Id) → occ x left + occ x right ≡ told (seats_at t) b x)
    → Seats b → Finishes Seats (pass_gate t left right draws b)
unfolding pass_gate
gate_ends t left right draws b free halves h = go (at t b.reshapes) refl
  where
    pass : (r : Reshape) → at t b.reshapes ≡ some r → (c : Bool) → Finishes Seats (cond c (drain_or_schedule t r left right draws b) (finished 0 draws b))
    pass r e true = drain_ends Seats t r left right draws b bounds_keep (drain_keeps t _ b h) (terminal_keeps t _ left right r b e (λ k. (free, halves)) h) h
    pass r e false = h

    go : (o : Option Reshape) → at t b.reshapes ≡ o → Finishes Seats (elim o [
      | none ↦ finished 0 draws b
      | some r ↦ cond (split_gate t left right r b) (drain_or_schedule t r left right draws b) (finished 0 draws b)
    ])
    go none e = h
    go (some r) e = pass r e (split_gate t left right r b)

schedule_split_lem : (t : Shard) (draws : List ℕ) (b : Board) → Seats b → Finishes Seats (schedule_split t draws b)
unfolding schedule_split halve
schedule_split_lem t draws b h =
    let k = abort_keeps t b h in
    drawn_told Seats (shuffle (seated_there t (abort_rotations t b)) draws) _ (λ ids left e.
    gate_ends t (take (half_up (length ids)) ids) (drop (half_up (length ids)) ids) left (abort_rotations t b) (λ x. abort_party t x b) (halves_occ t (half_up (length ids)) draws ids left (abort_rotations t b) k e) k)

pub schedule_splits_kept : (draws : List ℕ) (b : Board) → Seats b → Seats (schedule_splits draws b).board
unfolding schedule_splits
schedule_splits_kept draws b h = batch_keeps Seats schedule_split (unscheduled split b) draws b (λ w s o ds c. schedule_split_lem s ds c) h

-- of a batch of merges: the kinds stay what they were when the call began
record Kinds (b c : Board) : Type 0 where
  seats : Seats c
  kinds : (t : Shard) → kind_at c t ≡ kind_at b t

schedule_merge_lem : (b : Board) (t : Shard) (draws : List ℕ) (c : Board) → kind_at b t ≡ some merge → Kinds b c → Finishes (Kinds b) (schedule_merge t draws c)
unfolding schedule_merge of_split
schedule_merge_lem b t draws c m h = go (at t c.reshapes) refl
  where
    marks : (s : Shard) (f : Boundary → Boundary) (d : Board) → Kinds b d → Kinds b (on_bounds (update s f) d)
    marks s f d k = record { seats = bounds_keep s f d k.seats; kinds = k.kinds }

    kind_kept : (f : Reshape → Reshape) → ((r : Reshape) → (f r).kind ≡ r.kind) → Seats (on_reshapes (update t f) c) → Kinds b (on_reshapes (update t f) c)
    kind_kept f e k = record { seats = k; kinds = λ s. kind_update t s f c.reshapes e ∙ h.kinds s }

    -- no split stands here
    not_split : (r : Reshape) → at t c.reshapes ≡ some r → 1 ≤ of_split r.kind 1 → ⊥
    not_split r e k = omega (arith, rw (kind_of_lem t r merge c e (h.kinds t ∙ m)) at k)

    pass : (r : Reshape) → at t c.reshapes ≡ some r → (z : Bool) → Finishes (Kinds b) (cond z (drain_or_schedule t r [] [] draws c) (finished 0 draws c))
    pass r e true =
        drain_ends (Kinds b) t r [] [] draws c marks (kind_kept _ (λ q. refl) (drain_keeps t _ c h.seats))
        (kind_kept _ (λ q. refl) (terminal_keeps t _ [] [] r c e (λ k. absurd (not_split r e k)) h.seats)) h
    pass r e false = h

    go : (o : Option Reshape) → at t c.reshapes ≡ o → Finishes (Kinds b) (elim o [
      | none ↦ finished 0 draws c
      | some r ↦ cond (merge_gate r c) (drain_or_schedule t r [] [] draws c) (finished 0 draws c)
    ])
    go none e = h
    go (some r) e = pass r e (merge_gate r c)

pub schedule_merges_kept : (b : Board) → Formed b → Seats b → Seats (schedule_merges b).board
unfolding schedule_merges unscheduled
schedule_merges_kept b wf h =
    (batch_keeps (Kinds b) schedule_merge (unscheduled merge b) [] b (λ w s o ds c. schedule_merge_lem b s ds c (due_kind s o)) (record { seats = h; kinds = λ t. refl })).seats
  where
    due_kind : (t : Shard) → 1 ≤ occ t (unscheduled merge b) → kind_at b t ≡ some merge
    due_kind t o = let q = at_keys_where _ t b.reshapes wf.targets o in rw q.1 (ap some (kind_is merge q.0 (and_parts _ _ q.2).0))
