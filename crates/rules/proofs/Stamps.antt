-- A seated or observing machine carries the epoch of its last seating, or the stamp it began with: on every board, since a step that seats asks for a well-formed one itself.
use mathlib.Core.Path.{◌≡◌, refl, ap, sym, ◌∙◌}
use mathlib.Core.List.{List, [], ◌∷◌}
use mathlib.Core.Option.{Option, none, some, map, none-ne-some, some-injective}
use mathlib.Core.Bool.{Bool, true, false, cond, false≢true}
use Prim.Native.Nat.{ℕ, ◌≤◌}
use native.Mathlib.Omega.{arith}
use lib.Dec.{eqb}
use lib.ListN.{take, drop, take-append-drop}
use Rattle.types.specs.Numbers.{Shard, Id, Epoch, Height}
use Rattle.types.specs.Shards.{left_of, right_of}
use Rattle.types.specs.Places.{is_pooled, is_seated_on, observes, pooled, short, drawn_to, moved_to, kept_on, made_ready}
use Rattle.types.specs.declared.Place.{Place}
use Rattle.types.specs.declared.Place.TheVariants.{Pooled, Seated, Observing, Short, Other}
use Rattle.types.specs.declared.Answer.TheVariants.{NoRecord}
use Rattle.rules.specs.Lists.{◌and◌, ◌or◌}
use Rattle.rules.specs.Table.{Table, at, each, update, keys_where}
use Rattle.rules.specs.Board.{Rotation, Kind, split, merge, Seat, Reshape, Board, epoch_of, size_of}
use Rattle.rules.specs.WellFormed.{well_formed}
use Rattle.rules.specs.Moves.{pool_of, place, join, quit, put_on, take_off, for_all, pooled_from, abort_rotations, entrants_on, give_up_seat, watch, old_shards, new_shards, is_party}
use Rattle.rules.specs.Turns.{refused}
use Rattle.rules.specs.Places as places
use Rattle.rules.specs.Reshapes as reshapes
use Rattle.rules.specs.Schedule as schedule
use Rattle.rules.specs.Cut as cut
use Rattle.rules.specs.Calls as calls
use Rattle.rules.specs.Series.{next, after, stamp_of, stamp_in, stamp_at, is_seating, seating_from, seats, last_seating}
use Rattle.rules.proofs.Turns.{for_all_keeps, Mixed, shuffle_draws, Finishes, checked_finishes, drawn_finishes, step_keeps, pool_draw_finishes}
use Rattle.rules.proofs.Tests.{by_cases, of_no}
use Rattle.rules.proofs.Counts.{Alike, same, apart, alike, hit_same, occ, occ_take}
use Rattle.rules.proofs.Tables.{From, at_each, From-update}
use Rattle.rules.proofs.KeptTables.{at_keys_where, at_update, at_other}
use Rattle.rules.proofs.KeptBoard.{good_of_lem}
use Rattle.rules.proofs.KeptMoves.{for_all_counts, for_all_all}
use Rattle.rules.proofs.Batches.{any_drawn_finishes, schedule_splits_keeps, schedule_merges_keeps, cut_splits_keeps, cut_merges_keeps}

-- ---- one machine within a call that is made at epoch now

-- the stamp that it has to show on a seat, and on a watch, by the place it had when the call began
abbrev on_seat : Epoch → Place → Option Epoch
on_seat now Pooled = some now
on_seat now (Seated s r w) = some w.0
on_seat now (Observing s w) = some now
on_seat now Short = none
on_seat now (Other m) = none

abbrev on_watch : Epoch → Place → Option Epoch
on_watch now Pooled = some now
on_watch now (Seated s r w) = none
on_watch now (Observing s w) = some w.0
on_watch now Short = none
on_watch now (Other m) = none

-- from the place that it had to the one that it has come to
abbrev Goes : Epoch → Place → Place → Type 0
Goes now p Pooled = Unit {0}
Goes now p (Seated s r w) = on_seat now p ≡ some w.0
Goes now p (Observing s w) = on_watch now p ≡ some w.0
Goes now p Short = Unit {0}
Goes now p (Other m) = Unit {0}

goes_nowhere : (now : Epoch) (p : Place) → Goes now p p
goes_nowhere now Pooled = tt
goes_nowhere now (Seated s r w) = refl
goes_nowhere now (Observing s w) = refl
goes_nowhere now Short = tt
goes_nowhere now (Other m) = tt

-- a move that is right wherever the machine was when the call began
abbrev Right : Epoch → (Place → Place) → Type 0
Right now move = (p q : Place) → Goes now p q → Goes now p (move q)

right_pooled_from : (now : Epoch) (there : Place → Bool) → Right now (pooled_from there)
right_pooled_from now there p q h = by_cases (Goes now p) (there q) (pooled q) q (λ e. tt) (λ e. h)

right_moved_to : (now : Epoch) (s : Shard) → Right now (moved_to s)
right_moved_to now s p Pooled h = h
right_moved_to now s p (Seated t r w) h = h
right_moved_to now s p (Observing t w) h = h
right_moved_to now s p Short h = h
right_moved_to now s p (Other m) h = h

right_kept_on : (now : Epoch) (s : Shard) (ready : Bool) → Right now (kept_on s ready)
right_kept_on now s ready p Pooled h = h
right_kept_on now s ready p (Seated t r w) h = h
right_kept_on now s ready p (Observing t w) h = h
right_kept_on now s ready p Short h = h
right_kept_on now s ready p (Other m) h = h

right_made_ready : (now : Epoch) → Right now made_ready
right_made_ready now p Pooled h = h
right_made_ready now p (Seated s r w) h = h
right_made_ready now p (Observing s w) h = h
right_made_ready now p Short h = h
right_made_ready now p (Other m) h = h

-- who may watch may be seated, stamped now
watcher_sits : (now v : Epoch) (p : Place) → on_watch now p ≡ some v → on_seat now p ≡ some now
watcher_sits now v Pooled h = refl
watcher_sits now v (Seated s r w) h = absurd (none-ne-some v h)
watcher_sits now v (Observing s w) h = refl
watcher_sits now v Short h = absurd (none-ne-some v h)
watcher_sits now v (Other m) h = absurd (none-ne-some v h)

right_seated_by : (now : Epoch) (s : Shard) (q : Seat) → Right now (cut.seated_by s q now)
right_seated_by now s k p Pooled h = h
right_seated_by now s k p (Seated t r w) h = h
right_seated_by now s k p (Observing t w) h = watcher_sits now w.0 p h
right_seated_by now s k p Short h = h
right_seated_by now s k p (Other m) h = h

-- one that was in the pool when the call began may be seated or set to watch, stamped now
pool_sits : (now : Epoch) (p : Place) → is_pooled p ≡ true → on_seat now p ≡ some now
pool_sits now Pooled h = refl
pool_sits now (Seated s r w) h = absurd (false≢true h)
pool_sits now (Observing s w) h = absurd (false≢true h)
pool_sits now Short h = absurd (false≢true h)
pool_sits now (Other m) h = absurd (false≢true h)

pool_watches : (now : Epoch) (p : Place) → is_pooled p ≡ true → on_watch now p ≡ some now
pool_watches now Pooled h = refl
pool_watches now (Seated s r w) h = absurd (false≢true h)
pool_watches now (Observing s w) h = absurd (false≢true h)
pool_watches now Short h = absurd (false≢true h)
pool_watches now (Other m) h = absurd (false≢true h)

-- so the stamp is told by the two places: now where they show a seating, and else the one it had
goes_told : (now : Epoch) (p q : Place) (w : Epoch) → Goes now p q → stamp_of q ≡ some w → cond (is_seating p q) (some now) (stamp_of p) ≡ some w
unfolding stamp_of is_seating ◌and◌ ◌or◌
goes_told now p Pooled w h e = absurd (none-ne-some w e)
goes_told now Pooled (Seated s r v) w h e = h ∙ e
goes_told now (Seated t u x) (Seated s r v) w h e = h ∙ e
goes_told now (Observing t x) (Seated s r v) w h e = h ∙ e
goes_told now Short (Seated s r v) w h e = h ∙ e
goes_told now (Other m) (Seated s r v) w h e = h ∙ e
goes_told now Pooled (Observing s v) w h e = h ∙ e
goes_told now (Seated t u x) (Observing s v) w h e = absurd (none-ne-some v.0 h)
goes_told now (Observing t x) (Observing s v) w h e = h ∙ e
goes_told now Short (Observing s v) w h e = h ∙ e
goes_told now (Other m) (Observing s v) w h e = h ∙ e
goes_told now p Short w h e = absurd (none-ne-some w e)
goes_told now p (Other m) w h e = absurd (none-ne-some w e)

-- ---- all machines

-- what is recorded of a machine before and after; who has no record gets none
abbrev Went : Epoch → Option Place → Option Place → Type 0
Went now none q = q ≡ none
Went now (some p) none = Unit {0}
Went now (some p) (some q) = Goes now p q

went_told : (now : Epoch) (o q : Option Place) (w : Epoch) → Went now o q → stamp_in q ≡ some w → cond (seating_from o q) (some now) (stamp_in o) ≡ some w
unfolding stamp_in seating_from
went_told now none q w h e = absurd (none-ne-some w (sym (ap stamp_in h) ∙ e))
went_told now (some p) none w h e = absurd (none-ne-some w e)
went_told now (some p) (some q) w h e = goes_told now p q w h e

went_nowhere : (now : Epoch) (o : Option Place) → Went now o o
went_nowhere now none = refl
went_nowhere now (some p) = goes_nowhere now p

abbrev AllWent : Epoch → Table Place → Table Place → Type 0
AllWent now t u = (x : Id) → Went now (at x t) (at x u)

each_went : (now : Epoch) (f : Id → Place → Place) (t u : Table Place)
    → ((x : Id) (p q : Place) → at x t ≡ some p → Goes now p q → Goes now p (f x q))
    → AllWent now t u → AllWent now t (each f u)
each_went now f t u k h x = rw (at_each f x u) (go (at x t) (at x u) refl (h x))
  where
    go : (o q : Option Place) → at x t ≡ o → Went now o q → Went now o (map (f x) q)
    go none q e g = rw g
    go (some p) none e g = tt
    go (some p) (some q) e g = k x p q e g

-- no machine is astray since board b, and the epoch is b's
abbrev Since : Board → Board → Type 0
Since b c = AllWent (epoch_of b) b.machines c.machines × (epoch_of c ≡ epoch_of b)

since_now : (b : Board) → Since b b
since_now b = (λ x. went_nowhere (epoch_of b) (at x b.machines), refl)

-- a move of one machine that is right for where it was
since_place : (b c : Board) (y : Id) (move : Place → Place) → ((p q : Place) → at y b.machines ≡ some p → Goes (epoch_of b) p q → Goes (epoch_of b) p (move q)) → Since b c → Since b (place y move c)
unfolding place update
since_place b c y move k (h, e) = (each_went (epoch_of b) _ b.machines c.machines (λ x p q f g. go x p q f g (alike x y)) h, e)
  where
    go : (x : Id) (p q : Place) → at x b.machines ≡ some p → Goes (epoch_of b) p q → Alike x y → Goes (epoch_of b) p (cond (eqb x y) (move q) q)
    go x p q f g (same u v) = rw v (k p q (rw u at f) g)
    go x p q f g (apart u v) = rw v g

-- a move that is right for every machine, onto a shard and off it
module _ (b c : Board) (s : Shard) (y : Id) (move : Place → Place) (k : Right (epoch_of b) move) (h : Since b c) where
  since_put_on : Since b (put_on s move y c)
  unfolding put_on join
  since_put_on = since_place b c y move (λ p q e. k p q) h

  since_take_off : Since b (take_off s move y c)
  unfolding take_off quit
  since_take_off = since_place b c y move (λ p q e. k p q) h

-- ---- draws from the pool

-- the machine was in the pool of board b
abbrev InPool : Board → Id → Type 0
InPool b x = (p : Place) → at x b.machines ≡ some p → is_pooled p ≡ true

found_pooled : (t : Table Place) → From 0 t → (x : Id) → 1 ≤ occ x (keys_where is_pooled t) → (p : Place) → at x t ≡ some p → is_pooled p ≡ true
found_pooled t r x o p e =
    let f = at_keys_where is_pooled x t r o in
    let same_place : f.0 ≡ p = some-injective f.0 p (sym f.1 ∙ e) in
    rw same_place at f.2

machines_rise : (b : Board) → well_formed b ≡ true → From 0 b.machines
machines_rise b ok = (good_of_lem b ok).machines.rising

in_pool : (b : Board) → well_formed b ≡ true → (x : Id) → 1 ≤ occ x (pool_of b) → InPool b x
unfolding pool_of
in_pool b ok = found_pooled b.machines (machines_rise b ok)

-- one that was in the pool is seated or set to watch
module _ (b c : Board) (t : Shard) (y : Id) (k : InPool b y) (h : Since b c) where
  since_drawn : Since b (put_on t (drawn_to t (epoch_of c)) y c)
  unfolding put_on join
  since_drawn = since_place b c y _ (λ p q e g. rw h.1 (pool_sits (epoch_of b) p (k p e))) h

  since_watch : (child : Shard) → Since b (watch t child y c)
  unfolding watch put_on join
  since_watch child = since_place b c y _ (λ p q e g. rw h.1 (pool_watches (epoch_of b) p (k p e))) h

-- ---- DRAW COHORT

-- those of a list were in the pool and are still to watch
abbrev ToWatch : Board → List Id → Board → Type 0
ToWatch b l c = ((x : Id) → 1 ≤ occ x l → InPool b x) × Since b c

watch_step : (b : Board) (t child : Shard) (x : Id) (l : List Id) (c : Board) → ToWatch b (x ∷ l) c → ToWatch b l (watch t child x c)
unfolding occ
watch_step b t child x l c (k, h) = (λ y o. k y (omega arith), since_watch b c t x (k x (omega (arith, hit_same x))) h child)

since_draw_cohort : (t : Shard) (draws : List ℕ) (b : Board) → Since b (reshapes.draw_cohort t draws b).board
unfolding reshapes.draw_cohort reshapes.cohort_turn reshapes.watch_all
since_draw_cohort t draws b =
    step_keeps (Since b) _ b _ _ (since_now b) (λ p.
    drawn_finishes (Since b) (Mixed (pool_of b)) _ _ (shuffle_draws (pool_of b) draws) (λ ids left m.
    checked_finishes (Since b) _ _ (λ q. all (take (size_of b) ids) (λ x o. in_pool b (of_no _ p.0) x (omega (arith, o, occ_take x (size_of b) ids, m.ids x))))))
  where
    all : (ids : List Id) → ((x : Id) → 1 ≤ occ x ids → InPool b x) → Since b (reshapes.watch_all t ids b)
    all ids k =
        let n = reshapes.half_up (size_of b) in
        let l : ToWatch b (drop n ids) (for_all (watch t (left_of t)) (take n ids) b) = for_all_counts (ToWatch b) _ (watch_step b t (left_of t)) (take n ids) (drop n ids) b (rw take-append-drop (k, since_now b)) in
        (for_all_all (ToWatch b) _ (watch_step b t (right_of t)) (drop n ids) _ l).1

-- ---- LAPSE, and aborted rotations

since_released : (b : Board) (s : Shard) (there : Place → Bool) (l : List Id) (c : Board) → Since b c → Since b (for_all (take_off s (pooled_from there)) l c)
since_released b s there = for_all_keeps (Since b) _ (λ x c. since_take_off b c s x (pooled_from there) (right_pooled_from (epoch_of b) there))

since_lapse : (t : Shard) (b : Board) → Since b (reshapes.lapse t b).board
unfolding reshapes.lapse reshapes.released
since_lapse t b = step_keeps (Since b) _ b _ _ (since_now b) (λ p. since_released b t (observes t) (reshapes.cohort_of t b) b (since_now b))

-- ---- SCHEDULE

since_abort : (b : Board) (s : Shard) (c : Board) → Since b c → Since b (abort_rotations s c)
unfolding abort_rotations
since_abort b s c = since_released b s (is_seated_on s) (entrants_on s c.rotations) c

since_scheduled : (b : Board) (t : Shard) (r : Reshape) (left right : List Id) (c : Board) → Since b c → Since b (schedule.scheduled t r left right c)
unfolding schedule.scheduled
since_scheduled b t r left right c h = for_all_keeps (Since b) _ (λ s d g. g) (old_shards r.kind t) _ h

-- ---- CUT

since_recast : (b : Board) (k : Kind) (t : Shard) (height : Height) (c : Board) → Since b c → Since b (cut.recast k t height c)
unfolding cut.recast
since_recast b k t height c h = for_all_keeps (Since b) _ (λ s d g. g) (new_shards k t) _ (for_all_keeps (Since b) cut.end_shard (λ s d g. g) (old_shards k t) _ h)

since_cut_splits : (b : Board) → Since b (cut.cut_splits b).board
since_cut_splits b =
    cut_splits_keeps (Since b)
    (λ s x c. since_put_on b c s x (moved_to s) (right_moved_to (epoch_of b) s))
    (λ s q x c h. since_put_on b c s x _ (rw h.1 (right_seated_by (epoch_of b) s q)) h)
    b (λ t o. since_recast b split t) (since_now b)

since_cut_merges : (b : Board) → Since b (cut.cut_merges b).board
since_cut_merges b =
    cut_merges_keeps (Since b)
    (λ x c. since_place b c x pooled (λ p q e g. tt))
    (λ t q x c. since_put_on b c t x (kept_on t q.ready) (right_kept_on (epoch_of b) t q.ready))
    b (λ t o. since_recast b merge t) (since_now b)

-- ---- LEAVE

since_leave_seat : (s : Shard) (x : Id) (b : Board) → Since b (places.leave_seat s x b)
unfolding places.leave_seat give_up_seat
since_leave_seat s x b = since_take_off b b s x short (λ p q h. tt) (since_now b)

-- who is drawn after x has left is not x, which is short by then, so it was in the pool before
drawn_after_leave : (s : Shard) (x : Id) (b : Board) → well_formed b ≡ true → (y : Id) → 1 ≤ occ y (pool_of (places.leave_seat s x b)) → InPool b y
unfolding pool_of places.leave_seat give_up_seat take_off quit place
drawn_after_leave s x b ok y o p e = go (alike y x)
  where
    found : (q : Place) → at y (update x short b.machines) ≡ some q → is_pooled q ≡ true
    found = found_pooled (update x short b.machines) (From-update x short 0 b.machines (machines_rise b ok)) y o

    go : Alike y x → is_pooled p ≡ true
    go (same u v) = absurd (false≢true (found Short (rw u (at_update x short b.machines ∙ rw (rw u at e)))))
    go (apart u v) = found p (at_other y x short b.machines u ∙ e)

leave_seat_finishes : (s : Shard) (x : Id) (draws : List ℕ) (b : Board) → well_formed b ≡ true → Finishes (Since b) (places.leave_from_seat s x draws b)
unfolding places.leave_from_seat
leave_seat_finishes s x draws b ok =
    let g = since_leave_seat s x b in
    by_cases (Finishes (Since b)) (is_party s x b) _ _ (λ e. g)
    (λ e. by_cases (Finishes (Since b)) (places.is_carved s b) _ _ (λ f. g)
    (λ f. pool_draw_finishes (Since b) s false (λ y c. c) draws (places.leave_seat s x b) g (λ y o m q. since_drawn b (places.leave_seat s x b) s y (drawn_after_leave s x b ok y o) g)))

leave_finishes : (p : Place) (x : Id) (draws : List ℕ) (b : Board) → well_formed b ≡ true → Finishes (Since b) (places.leave_from p x draws b)
unfolding places.leave_from give_up_seat
leave_finishes Pooled x draws b ok = since_place b b x short (λ p q e h. tt) (since_now b)
leave_finishes (Seated s r w) x draws b ok = leave_seat_finishes s.0 x draws b ok
leave_finishes (Observing s w) x draws b ok = since_take_off b b s.0 x short (λ p q h. tt) (since_now b)
leave_finishes Short x draws b ok = since_place b b x short (λ p q e h. tt) (since_now b)
leave_finishes (Other m) x draws b ok = since_place b b x short (λ p q e h. tt) (since_now b)

since_leave : (x : Id) (draws : List ℕ) (b : Board) → Since b (places.leave x draws b).board
unfolding places.leave places.leave_turn
since_leave x draws b = step_keeps (Since b) _ b _ _ (since_now b) (λ p. go (of_no _ p.0) (at x b.machines))
  where
    go : well_formed b ≡ true → (o : Option Place) → Finishes (Since b) (elim o [ none ↦ refused NoRecord | some p ↦ places.leave_from p x draws b ])
    go ok none = tt
    go ok (some p) = leave_finishes p x draws b ok

-- ---- ROTATE, RESOLVE, TIME OUT

since_rotate : (s : Shard) (v : Id) (draws : List ℕ) (b : Board) → Since b (places.rotate s v draws b).board
unfolding places.rotate places.rotate_turn
since_rotate s v draws b =
    step_keeps (Since b) _ b _ _ (since_now b) (λ p.
    by_cases (Finishes (Since b)) (places.may_rotate s b) _ _ (λ e.
    checked_finishes (Since b) _ _ (λ q. pool_draw_finishes (Since b) s _ _ draws b (since_now b) (λ x o m f. since_drawn b b s x (in_pool b (of_no _ p.0) x o) (since_now b))))
    (λ e. since_now b))

since_close : (b : Board) (r : Rotation) (c : Board) → Since b c → Since b (places.close r c)
unfolding places.close places.retire
since_close b r c h =
    by_cases (Since b) (places.has_seats_free r.shard _) _ _ (λ e. h) (λ e. since_take_off b _ r.shard r.victim _ (right_pooled_from (epoch_of b) (is_seated_on r.shard)) h)

since_resolve : (b : Board) → Since b (places.resolve b).board
unfolding places.resolve
since_resolve b = step_keeps (Since b) _ b _ _ (since_now b) (λ p. for_all_keeps (Since b) places.close (since_close b) (places.resolved b) b (since_now b))

since_time_out : (b : Board) → Since b (places.time_out b).board
unfolding places.time_out
since_time_out b = step_keeps (Since b) _ b _ _ (since_now b) (λ p. (
  each_went (epoch_of b) _ b.machines b.machines (λ x u q e h.
      by_cases (Goes (epoch_of b) u) (places.is_due b q) _ _ (λ d. right_made_ready (epoch_of b) u q h) (λ d. h)) (since_now b).0,
  refl,
))

-- ---- one call, and a series

call_went : (c : calls.Call) (b : Board) → AllWent (epoch_of b) b.machines (next c b).machines
unfolding calls.answer_to places.tick reshapes.admit_split reshapes.admit_merge reshapes.admit reshapes.mark_seat_ready reshapes.mark_quiet
call_went calls.tick b = step_keeps (λ c. AllWent (epoch_of b) b.machines c.machines) _ b _ _ (since_now b).0 (λ p. (since_now b).0)
call_went (calls.admit_split t) b = (step_keeps (Since b) _ b _ _ (since_now b) (λ p. checked_finishes (Since b) _ _ (λ q. since_now b))).0
call_went (calls.admit_merge t draws) b =
    (step_keeps (Since b) _ b _ _ (since_now b) (λ p. any_drawn_finishes (Since b) _ _ (λ keepers left. checked_finishes (Since b) _ _ (λ q. since_now b)))).0
call_went (calls.mark_seat_ready t x) b = (step_keeps (Since b) _ b _ _ (since_now b) (λ p. since_now b)).0
call_went (calls.mark_quiet t side) b = (step_keeps (Since b) _ b _ _ (since_now b) (λ p. since_now b)).0
call_went (calls.draw_cohort t draws) b = (since_draw_cohort t draws b).0
call_went (calls.lapse t) b = (since_lapse t b).0
call_went (calls.schedule_splits draws) b = (schedule_splits_keeps (Since b) (since_abort b) (λ t e c h. h) (since_scheduled b) draws b (since_now b)).0
call_went calls.schedule_merges b = (schedule_merges_keeps (Since b) (since_abort b) (λ t e c h. h) (since_scheduled b) b (since_now b)).0
call_went calls.cut_splits b = (since_cut_splits b).0
call_went calls.cut_merges b = (since_cut_merges b).0
call_went (calls.leave x draws) b = (since_leave x draws b).0
call_went (calls.rotate s v draws) b = (since_rotate s v draws b).0
call_went calls.resolve b = (since_resolve b).0
call_went calls.time_out b = (since_time_out b).0

-- 'a seating is a move from pool to seat, pool to watch, or watch to seat': after a call, a stamp is the call's epoch where the call shows one, and else the stamp from before
pub call_stamps : (c : calls.Call) (x : Id) (b : Board) (w : Epoch) → stamp_at x (next c b) ≡ some w → cond (seats x b (next c b)) (some (epoch_of b)) (stamp_at x b) ≡ some w
call_stamps c x b w e = went_told (epoch_of b) (at x b.machines) (at x (next c b).machines) w (call_went c b x) e

-- a stamp that is told of a machine is the one it shows, where it shows one
abbrev Told : Id → Board → Option Epoch → Type 0
Told x b stamp = (w : Epoch) → stamp_at x b ≡ some w → stamp ≡ some w

call_told : (c : calls.Call) (x : Id) (b : Board) (stamp : Option Epoch) → Told x b stamp → Told x (next c b) (cond (seats x b (next c b)) (some (epoch_of b)) stamp)
call_told c x b stamp h w e = go (seats x b (next c b)) (call_stamps c x b w e)
  where
    go : (d : Bool) → cond d (some (epoch_of b)) (stamp_at x b) ≡ some w → cond d (some (epoch_of b)) stamp ≡ some w
    go true f = f
    go false f = h w f

series_told : (cs : List calls.Call) (x : Id) (b : Board) (stamp : Option Epoch) → Told x b stamp → Told x (after cs b) (last_seating x cs b stamp)
unfolding after last_seating
series_told [] x b stamp h = h
series_told (c ∷ cs) x b stamp h = series_told cs x (next c b) _ (call_told c x b stamp h)

-- 'every seated or observing machine carries the epoch of its last seating in the series, or its starting stamp if it had none'
pub stamps_told : (cs : List calls.Call) (x : Id) (b : Board) (w : Epoch) → stamp_at x (after cs b) ≡ some w → last_seating x cs b (stamp_at x b) ≡ some w
stamps_told cs x b = series_told cs x b (stamp_at x b) (λ v e. e)
