-- What each call makes of the cohort of a split at t.
use mathlib.Core.Path.{◌≡◌, refl, ap, sym, ◌∙◌}
use mathlib.Core.Logic.{◌≢◌, ◌⊎◌, inl, inr}
use mathlib.Core.List.{List, [], ◌∷◌}
use mathlib.Core.Option.{Option, none, some, map, none-ne-some, some-injective}
use mathlib.Core.Bool.{Bool, true, false, cond, not, false≢true, true≢false}
use Prim.Native.Nat.{ℕ, ◌-◌, ◌≤◌}
use native.Mathlib.Omega.{arith}
use lib.Dec.{eqb, leb}
use lib.ListN.{length}
use Rattle.types.specs.Numbers.{Shard, Id, Epoch, Height}
use Rattle.types.specs.Shards.{left_of, right_of, parent_of}
use Rattle.types.specs.Places.{observes, short}
use Rattle.types.specs.Answers.{number_of}
use Rattle.types.specs.declared.Place.{Place}
use Rattle.types.specs.declared.Place.TheVariants.{Pooled, Seated, Observing, Short, Other}
use Rattle.types.specs.declared.Answer.TheVariants.{Done, NoRecord}
use Rattle.rules.specs.Lists.{◌and◌, ◌or◌, every, any, has, keep, strike}
use Rattle.rules.specs.Table.{Table, at, holds_at, put, remove, each, update, keys_where, keys_of}
use Rattle.rules.specs.Board.{Rotation, Kind, split, merge, Seat, Reshape, Board, on_reshapes}
use Rattle.rules.specs.WellFormed.{well_formed, is_target}
use Rattle.rules.specs.Moves.{says, place, join, quit, put_on, take_off, abort_rotations, with_seats, with_drain_by, is_kind, reshape_at, new_seat, give_up_seat, watch, overlaps, old_shards, new_shards, is_party}
use Rattle.rules.specs.Turns.{Result, refused, alone, checked}
use Rattle.rules.specs.SeatCheck.{cohorts_watch, seat_check}
use Rattle.rules.specs.Places as places
use Rattle.rules.specs.Reshapes as reshapes
use Rattle.rules.specs.Schedule as schedule
use Rattle.rules.specs.Cut as cut
use Rattle.rules.specs.Calls as calls
use Rattle.rules.specs.Series.{next, is_done, drawn_after}
use Rattle.rules.proofs.Counts.{Alike, same, apart, alike, eqb_same, eqb_apart, hit_same, occ}
use Rattle.rules.proofs.Tables.{cond_const, at_put, at_remove, tally, occ_keys_where}
use Rattle.rules.proofs.Turns.{result, for_all_keeps, Finishes, checked_finishes, step_keeps, pool_draw_finishes}
use Rattle.rules.proofs.Tests.{and_parts, or_cases, all_parts, of_not, given_if, le_of, lt_of_no, eq_of, of_eq, every_has, every_at, by_cases, of_no}
use Rattle.rules.proofs.KeptTables.{at_keys_where, at_holds, holds_at_lem, at_update, at_other, holds_same}
use Rattle.rules.proofs.KeptBoard.{Good, good_of_lem}
use Rattle.rules.proofs.Refusals.{Untouched, refusal_changes_nothing}
use Rattle.rules.proofs.SeatsLaws.{any_in}
use Rattle.rules.proofs.SeatsKept.{seat_check_formed}
use Rattle.rules.proofs.Batches.{any_drawn_finishes, schedule_splits_keeps, schedule_merges_keeps, cut_splits_keeps, cut_merges_keeps}

-- ---- the cohort of a split

-- by what stands at the target; none where that is no split
unfoldable pub cohort_in : Option Reshape → Option (List Id)
cohort_in none = none
cohort_in (some r) = cond (is_kind split r) (some (keys_of r.seats)) none

-- a split stands at t, and these are its cohort
abbrev HasIn : Shard → List Id → Table Reshape → Type 0
HasIn t ids rs = cohort_in (at t rs) ≡ some ids

abbrev pub Has : Shard → List Id → Board → Type 0
Has t ids b = HasIn t ids b.reshapes

pub record Split (t : Shard) (ids : List Id) (b : Board) : Type 0 where
  pub reshape : Reshape
  pub there : at t b.reshapes ≡ some reshape
  pub is_split : is_kind split reshape ≡ true
  pub cohort : keys_of reshape.seats ≡ ids

pub split_of : (t : Shard) (ids : List Id) (b : Board) → Has t ids b → Split t ids b
unfolding cohort_in
split_of t ids b h = go (at t b.reshapes) refl h
  where
    go : (o : Option Reshape) → at t b.reshapes ≡ o → cohort_in o ≡ some ids → Split t ids b
    go none e g = absurd (none-ne-some ids g)
    go (some r) e g = let p = given_if _ _ _ g in record { reshape = r; there = e; is_split = p.0; cohort = p.1 }

-- a split has the cohort that `cohort_of` tells
pub split_has : (t : Shard) (b : Board) → reshape_at split t b ≡ true → Has t (reshapes.cohort_of t b) b
unfolding cohort_in reshapes.cohort_of
split_has t b h = let f = at_holds t (is_kind split) b.reshapes h in rw (f.1, f.2, reshapes.cohort_of)

-- a reshape is of one kind
one_kind : {A : Type 0} (r : Reshape) → is_kind split r ≡ true → is_kind merge r ≡ true → A
unfolding is_kind
one_kind {A} r = go r.kind
  where
    go : (k : Kind) → (elim k as (λ j. Bool) [ split ↦ true | merge ↦ false ]) ≡ true → (elim k as (λ j. Bool) [ split ↦ false | merge ↦ true ]) ≡ true → A
    go split p q = absurd (false≢true q)
    go merge p q = absurd (false≢true p)

module _ (t : Shard) (ids : List Id) where
  -- a change of one reshape that leaves its kind and its seats' ids
  has_update : (u : Shard) (f : Reshape → Reshape) → ((r : Reshape) → cohort_in (some (f r)) ≡ cohort_in (some r)) → (rs : Table Reshape) → HasIn t ids rs → HasIn t ids (update u f rs)
  has_update u f k rs h = go (alike t u)
    where
      mapped : (o : Option Reshape) → cohort_in (map f o) ≡ cohort_in o
      mapped none = refl
      mapped (some r) = k r

      go : Alike t u → HasIn t ids (update u f rs)
      go (same p q) = rw (← p, at_update t f rs) (mapped (at t rs) ∙ h)
      go (apart p q) = rw (at_other t u f rs p) h

  -- another reshape changed
  has_apart : (u : Shard) (f : Reshape → Reshape) (rs : Table Reshape) → t ≢ u → HasIn t ids rs → HasIn t ids (update u f rs)
  has_apart u f rs n h = rw (at_other t u f rs n) h

-- ---- lists and tables of ids

-- who is not in a list is not struck
strike_absent : (x : ℕ) (l : List ℕ) → occ x l ≡ 0 → strike x l ≡ l
unfolding strike keep occ
strike_absent x [] o = refl
strike_absent x (y ∷ l) o = go (alike y x) (strike_absent x l (omega arith))
  where
    go : Alike y x → strike x l ≡ l → strike x (y ∷ l) ≡ y ∷ l
    go (same p q) ih = absurd (omega (arith, hit_same x, rw p at o))
    go (apart p q) ih = rw q (ap (λ m. y ∷ m) ih)

-- a seat removed: its id struck
keys_remove : {A : Type 0} (x : ℕ) (s : Table A) → keys_of (remove x s) ≡ strike x (keys_of s)
unfolding keys_of keys_where remove strike keep
keys_remove x [] = refl
keys_remove x (e ∷ s) = go (alike x e.key) (keys_remove x s)
  where
    go : Alike x e.key → keys_of (remove x s) ≡ strike x (keys_of s) → keys_of (remove x (e ∷ s)) ≡ strike x (keys_of (e ∷ s))
    go (same p q) ih = rw (q, ← p, eqb_same) ih
    go (apart p q) ih = rw (q, eqb_apart e.key x (λ z. p (sym z))) (ap (λ m. e.key ∷ m) ih)

keys_each : {A : Type 0} (f : ℕ → A → A) (s : Table A) → keys_of (each f s) ≡ keys_of s
unfolding keys_of keys_where each
keys_each f [] = refl
keys_each f (e ∷ s) = ap (λ m. e.key ∷ m) (keys_each f s)

-- ---- what the seat check tells

-- each of a cohort observes its target
pub cohort_observes : (t : Shard) (ids : List Id) (b : Board) → seat_check b ≡ true → Has t ids b → every (says (observes t) b) ids ≡ true
unfolding seat_check cohorts_watch
cohort_observes t ids b ok h =
    let s = split_of t ids b h in
    let w = every_at _ b.reshapes t s.reshape (all_parts _ ok).1.1.1.0 s.there in
    rw s.cohort at (go _ _ (or_cases _ _ w) s.is_split)
  where
    go : (c d : Bool) → (not c ≡ true) ⊎ (d ≡ true) → c ≡ true → d ≡ true
    go c d (inl n) e = absurd (true≢false (sym e ∙ of_not _ n))
    go c d (inr w) e = w

-- who does not observe a target is not struck from its cohort
strike_other : (t : Shard) (ids : List Id) (b : Board) → seat_check b ≡ true → Has t ids b → (x : Id) → says (observes t) b x ≡ false → strike x ids ≡ ids
strike_other t ids b ok h x n = strike_absent x ids (go (leb 1 (occ x ids)) refl)
  where
    go : (c : Bool) → leb 1 (occ x ids) ≡ c → occ x ids ≡ 0
    go true u = absurd (true≢false (sym (every_has _ ids x (cohort_observes t ids b ok h) (le_of _ _ u)) ∙ n))
    go false u = omega (arith, lt_of_no 1 (occ x ids) u)

-- a shard with a split is not free for an admission
taken : {A : Type 0} (t : Shard) (ids : List Id) (b : Board) → Good b → Has t ids b → reshapes.family_free t b ≡ true → A
unfolding reshapes.family_free overlaps any has ◌or◌ keys_of tally
taken t ids b g h free =
    let s = split_of t ids b h in
    let o : occ t (keys_of b.reshapes) ≡ 1 = occ_keys_where (λ r. true) t 0 b.reshapes g.reshapes.rising ∙ rw s.there in
    absurd (true≢false (sym (any_in (overlaps t) (keys_of b.reshapes) t (omega arith) (rw (eqb_same t))) ∙ of_not _ free))

-- ---- moves of a turn

-- a cut takes the record of its target away
recast_reshapes : (k : Kind) (u : Shard) (height : Height) (c : Board) → (cut.recast k u height c).reshapes ≡ remove u c.reshapes
unfolding cut.recast
recast_reshapes k u height c =
    for_all_keeps (λ d. d.reshapes ≡ remove u c.reshapes) _ (λ s d e. e) (new_shards k u) _
    (for_all_keeps (λ d. d.reshapes ≡ remove u c.reshapes) cut.end_shard (λ s d e. e) (old_shards k u) _ refl)

module _ (t : Shard) (ids : List Id) where
  abort_has : (s : Shard) (c : Board) → Has t ids c → Has t ids (abort_rotations s c)
  unfolding abort_rotations take_off quit place
  abort_has s c g = for_all_keeps (Has t ids) _ (λ x d f. f) _ c g

  drain_has : (u : Shard) (e : Epoch) (c : Board) → Has t ids c → Has t ids (on_reshapes (update u (with_drain_by e)) c)
  unfolding cohort_in is_kind
  drain_has u e c = has_update t ids u (with_drain_by e) (λ r. refl) c.reshapes

  scheduled_has : (u : Shard) (q : Reshape) (left right : List Id) (c : Board) → Has t ids c → Has t ids (schedule.scheduled u q left right c)
  unfolding schedule.scheduled cohort_in is_kind
  scheduled_has u q left right c g = for_all_keeps (Has t ids) _ (λ s d f. f) (old_shards q.kind u) _ (has_update t ids u _ (λ r. refl) _ g)

  -- another reshape is cut
  recast_apart : (k : Kind) (u : Shard) (height : Height) (c : Board) → t ≢ u → Has t ids c → Has t ids (cut.recast k u height c)
  recast_apart k u height c n g = rw (recast_reshapes k u height c, at_remove t u c.reshapes, eqb_apart t u n) g

-- ---- calls that leave the cohort as it is

module _ (t : Shard) (ids : List Id) (b : Board) (h : Has t ids b) where
  admitted_has : Good b → (k : Kind) (u : Shard) (handled : ℕ) (seats : Table Seat) (draws : List ℕ) → reshapes.family_free u b ≡ true → Finishes (Has t ids) (reshapes.admit k u handled seats draws b)
  unfolding reshapes.admit
  admitted_has g k u handled seats draws free = checked_finishes (Has t ids) _ _ (λ p. rw (at_put t u (reshapes.new_reshape k seats b) b.reshapes) (go (alike t u)))
    where
      go : Alike t u → cohort_in (cond (eqb t u) (some (reshapes.new_reshape k seats b)) (at t b.reshapes)) ≡ some ids
      go (same p q) = taken t ids b g h (rw p free)
      go (apart p q) = rw q h

  admit_split_has : Good b → (u : Shard) → Has t ids (reshapes.admit_split u b).board
  unfolding reshapes.admit_split reshapes.admission_faults
  admit_split_has g u = step_keeps (Has t ids) _ b _ _ h (λ p. admitted_has g split u 1 [] [] (and_parts _ _ (of_no _ p.1.1.0)).0)

  admit_merge_has : Good b → (u : Shard) (draws : List ℕ) → Has t ids (reshapes.admit_merge u draws b).board
  unfolding reshapes.admit_merge reshapes.admission_faults
  admit_merge_has g u draws = step_keeps (Has t ids) _ b _ _ h (λ p. any_drawn_finishes (Has t ids) _ _ (λ keepers left. admitted_has g merge u (length keepers) keepers left (and_parts _ _ (of_no _ p.1.1.0)).0))

  mark_seat_ready_has : (u : Shard) (x : Id) → Has t ids (reshapes.mark_seat_ready u x b).board
  unfolding reshapes.mark_seat_ready cohort_in is_kind update
  mark_seat_ready_has u x = step_keeps (Has t ids) _ b _ _ h (λ p. has_update t ids u _ (λ r. rw (keys_each (λ j q. cond (eqb j x) (reshapes.ready_seat q) q) r.seats)) _ h)

  mark_quiet_has : (u : Shard) (side : ℕ) → Has t ids (reshapes.mark_quiet u side b).board
  unfolding reshapes.mark_quiet reshapes.quieted cohort_in is_kind
  mark_quiet_has u side = step_keeps (Has t ids) _ b _ _ h (λ p. has_update t ids u _ (λ r. refl) _ h)

  rotate_has : (s : Shard) (v : Id) (draws : List ℕ) → Has t ids (places.rotate s v draws b).board
  unfolding places.rotate places.rotate_turn put_on join place
  rotate_has s v draws =
      step_keeps (Has t ids) _ b _ _ h (λ p.
      by_cases (Finishes (Has t ids)) (places.may_rotate s b) _ _ (λ e. checked_finishes (Has t ids) _ _ (λ q. pool_draw_finishes (Has t ids) s _ _ draws b h (λ x o m f. h))) (λ e. h))

  resolve_has : Has t ids (places.resolve b).board
  unfolding places.resolve places.close places.retire take_off quit place
  resolve_has = step_keeps (Has t ids) _ b _ _ h (λ p. for_all_keeps (Has t ids) places.close close_has (places.resolved b) b h)
    where
      close_has : (r : Rotation) (c : Board) → Has t ids c → Has t ids (places.close r c)
      close_has r c g = by_cases (Has t ids) (places.has_seats_free r.shard _) _ _ (λ e. g) (λ e. g)

  time_out_has : Has t ids (places.time_out b).board
  unfolding places.time_out
  time_out_has = step_keeps (Has t ids) _ b _ _ h (λ p. h)

  schedule_splits_has : (draws : List ℕ) → Has t ids (schedule.schedule_splits draws b).board
  schedule_splits_has draws = schedule_splits_keeps (Has t ids) (abort_has t ids) (drain_has t ids) (scheduled_has t ids) draws b h

  schedule_merges_has : Has t ids (schedule.schedule_merges b).board
  schedule_merges_has = schedule_merges_keeps (Has t ids) (abort_has t ids) (drain_has t ids) (scheduled_has t ids) b h

  -- where the split still stands, its cohort is as it was
  cut_splits_has : reshape_at split t (cut.cut_splits b).board ≡ true → Has t ids (cut.cut_splits b).board
  unfolding put_on join place
  cut_splits_has = cut_splits_keeps Uncut (λ s x c g. g) (λ s q x c g. g) b (λ u o height c g. rw (recast_reshapes split u height c) (removed u c g (alike t u))) (λ e. h)
    where
      Uncut : Board → Type 0
      Uncut c = reshape_at split t c ≡ true → Has t ids c

      removed : (u : Shard) (c : Board) → Uncut c → Alike t u → holds_at t (is_kind split) (remove u c.reshapes) ≡ true → HasIn t ids (remove u c.reshapes)
      removed u c g (same p q) e =
          let f = at_holds t (is_kind split) (remove u c.reshapes) e in
          absurd (none-ne-some f.0 (rw (at_remove t u c.reshapes, q) at f.1))
      removed u c g (apart p q) e =
          let k : at t (remove u c.reshapes) ≡ at t c.reshapes = at_remove t u c.reshapes ∙ rw q in
          rw k (g (sym (holds_same t (is_kind split) (remove u c.reshapes) c.reshapes k) ∙ e))

  -- a merge that is cut is no split
  cut_merges_has : Good b → Has t ids (cut.cut_merges b).board
  unfolding put_on join place cut.due
  cut_merges_has g = cut_merges_keeps (Has t ids) (λ x c f. f) (λ u q x c f. f) b (λ u o height c. recast_apart t ids merge u height c (other u o)) h
    where
      other : (u : Shard) → 1 ≤ occ u (cut.due merge b) → t ≢ u
      other u o e =
          let s = split_of t ids b h in
          let f = at_keys_where _ u b.reshapes g.reshapes.rising o in
          let r : s.reshape ≡ f.0 = some-injective s.reshape f.0 (sym s.there ∙ ap (λ k. at k b.reshapes) e ∙ f.1) in
          one_kind f.0 (rw r at s.is_split) (and_parts _ _ f.2).0

-- ---- LEAVE

-- a keeper's seat goes: no split changes
keeper_has : (t : Shard) (ids : List Id) (u : Shard) (x : Id) (b : Board) → Has t ids b → Has t ids (give_up_seat merge u x b)
unfolding give_up_seat cohort_in is_kind
keeper_has t ids u x b = has_update t ids u _ (λ r. by_cases (λ q. cohort_in (some q) ≡ cohort_in (some r)) (is_kind merge r) (with_seats (remove x) r) r (λ e. no_split r e (is_kind split r) refl) (λ e. refl)) b.reshapes
  where
    no_split : (r : Reshape) → is_kind merge r ≡ true → (c : Bool) → is_kind split r ≡ c → cohort_in (some (with_seats (remove x) r)) ≡ cohort_in (some r)
    no_split r e true f = one_kind r f e
    no_split r e false f = rw f

-- who does not observe t leaves its cohort as it is
module _ (t : Shard) (ids : List Id) (b : Board) (h : Has t ids b) (x : Id) where
  leave_seat_has : (s : Shard) → Has t ids (places.leave_seat s x b)
  unfolding places.leave_seat take_off quit place
  leave_seat_has s = keeper_has t ids (parent_of s) x _ h

  leave_from_seat_has : (s : Shard) (draws : List ℕ) → Finishes (Has t ids) (places.leave_from_seat s x draws b)
  unfolding places.leave_from_seat put_on join place
  leave_from_seat_has s draws =
      let g = leave_seat_has s in
      by_cases (Finishes (Has t ids)) (is_party s x b) _ _ (λ e. g)
      (λ e. by_cases (Finishes (Has t ids)) (places.is_carved s b) _ _ (λ f. g)
      (λ f. pool_draw_finishes (Has t ids) s false (λ y c. c) draws (places.leave_seat s x b) g (λ y o m q. g)))

  leave_from_has : (p : Place) (draws : List ℕ) → observes t p ≡ false → Finishes (Has t ids) (places.leave_from p x draws b)
  unfolding places.leave_from give_up_seat take_off quit place
  leave_from_has Pooled draws n = h
  leave_from_has (Seated s r w) draws n = leave_from_seat_has s.0 draws
  leave_from_has (Observing s w) draws n = has_apart t ids s.0 _ _ (λ e. true≢false (sym (of_eq s.0 t (sym e)) ∙ n)) h
  leave_from_has Short draws n = h
  leave_from_has (Other m) draws n = h

  leave_has : (draws : List ℕ) → says (observes t) b x ≡ false → Has t ids (places.leave x draws b).board
  unfolding places.leave places.leave_turn
  leave_has draws n = step_keeps (Has t ids) _ b _ _ h (λ p. go (at x b.machines) refl)
    where
      go : (o : Option Place) → at x b.machines ≡ o → Finishes (Has t ids) (elim o [ none ↦ refused NoRecord | some p ↦ places.leave_from p x draws b ])
      go none e = tt
      go (some p) e = leave_from_has p draws (sym (holds_at_lem x (observes t) b.machines p e) ∙ n)

-- who observes t is struck from it
leaver_struck : (t : Shard) (ids : List Id) (b : Board) (x : Id) → Has t ids b → Has t (strike x ids) (give_up_seat split t x (take_off t short x b))
unfolding give_up_seat take_off quit place cohort_in is_kind
leaver_struck t ids b x h =
    let s = split_of t ids b h in
    rw (at_update t (λ r. cond (is_kind split r) (with_seats (remove x) r) r) b.reshapes, s.there, s.is_split, s.is_split, keys_remove x s.reshape.seats, s.cohort)

observer_leaves : (t : Shard) (b : Board) (x : Id) (draws : List ℕ) (p : Place) → well_formed b ≡ true → at x b.machines ≡ some p → observes t p ≡ true
    → places.leave x draws b ≡ result Done 0 (length draws - length draws) (give_up_seat split t x (take_off t short x b))
unfolding places.leave alone checked places.leave_turn places.leave_from
observer_leaves t b x draws Pooled ok e h = absurd (false≢true h)
observer_leaves t b x draws (Seated s r w) ok e h = absurd (false≢true h)
observer_leaves t b x draws (Observing s w) ok e h = rw (ok, e, places.leave_turn, eq_of s.0 t h)
observer_leaves t b x draws Short ok e h = absurd (false≢true h)
observer_leaves t b x draws (Other m) ok e h = absurd (false≢true h)

-- ---- DRAW COHORT, LAPSE

-- a call of one turn that is not done leaves the board
undone : (b : Board) (r : Result) → (r.answer ≡ Done) ⊎ Untouched b r → eqb (number_of r.answer) 0 ≡ false → r.board ≡ b
undone b r (inl d) e = absurd (true≢false (rw d at e))
undone b r (inr u) e = u.board

-- what each watch keeps, the draw keeps
draw_keeps : (P : Board → Type 0) (u : Shard) → ((child : Shard) (x : Id) (c : Board) → P c → P (watch u child x c)) → (draws : List ℕ) (b : Board) → P b → P (reshapes.draw_cohort u draws b).board
unfolding reshapes.draw_cohort reshapes.cohort_turn reshapes.watch_all
draw_keeps P u k draws b h =
    step_keeps P _ b _ _ h (λ p.
    any_drawn_finishes P _ _ (λ ids left.
    checked_finishes P _ _ (λ q. for_all_keeps P (watch u (right_of u)) (k (right_of u)) _ _ (for_all_keeps P (watch u (left_of u)) (k (left_of u)) _ b h))))

-- a cohort drawn for another split
drawn_apart : (t : Shard) (ids : List Id) (u : Shard) (draws : List ℕ) (b : Board) → t ≢ u → Has t ids b → Has t ids (reshapes.draw_cohort u draws b).board
unfolding watch put_on join place
drawn_apart t ids u draws b n = draw_keeps (Has t ids) u (λ child x c. has_apart t ids u _ c.reshapes n) draws b

split_stays : (t : Shard) (draws : List ℕ) (b : Board) → reshape_at split t b ≡ true → reshape_at split t (reshapes.draw_cohort t draws b).board ≡ true
unfolding watch put_on join place is_kind
split_stays t = draw_keeps (λ c. reshape_at split t c ≡ true) t (λ child x c e.
    let f = at_holds t (is_kind split) c.reshapes e in
    holds_at_lem t (is_kind split) _ (with_seats (put x (new_seat child)) f.0) (at_update t (with_seats (put x (new_seat child))) c.reshapes ∙ rw f.1) ∙ f.2)

pub no_cohort_drawn : (t : Shard) (draws : List ℕ) (b : Board) → well_formed b ≡ true → holds_at t reshapes.awaits_cohort b.reshapes ≡ false → is_done (calls.draw_cohort t draws) b ≡ false
unfolding calls.answer_to reshapes.draw_cohort alone checked
no_cohort_drawn t draws b ok e = go (is_target t) refl
  where
    go : (c : Bool) → is_target t ≡ c → is_done (calls.draw_cohort t draws) b ≡ false
    go true f = rw (ok, f, e)
    go false f = rw (ok, f)

-- a cohort is drawn for a split, which stands then
pub drawn_split : (t : Shard) (draws : List ℕ) (b : Board) → well_formed b ≡ true → is_done (calls.draw_cohort t draws) b ≡ true → reshape_at split t (next (calls.draw_cohort t draws) b) ≡ true
unfolding calls.answer_to reshapes.awaits_cohort
drawn_split t draws b ok d = go (holds_at t reshapes.awaits_cohort b.reshapes) refl
  where
    go : (c : Bool) → holds_at t reshapes.awaits_cohort b.reshapes ≡ c → reshape_at split t (next (calls.draw_cohort t draws) b) ≡ true
    go true e = let f = at_holds t reshapes.awaits_cohort b.reshapes e in split_stays t draws b (holds_at_lem t (is_kind split) b.reshapes f.0 f.1 ∙ (and_parts _ _ f.2).0)
    go false e = absurd (true≢false (sym d ∙ no_cohort_drawn t draws b ok e))

-- another split lapses
lapse_apart : (t : Shard) (ids : List Id) (u : Shard) (b : Board) → t ≢ u → Has t ids b → Has t ids (reshapes.lapse u b).board
unfolding reshapes.lapse reshapes.released take_off quit place
lapse_apart t ids u b n h = step_keeps (Has t ids) _ b _ _ h (λ p. has_apart t ids u _ _ n (for_all_keeps (Has t ids) _ (λ x c g. g) (reshapes.cohort_of u b) b h))

-- ---- one call

-- the machines that count as drawn for t are the cohort of a split there
abbrev pub Held : Shard → Option (List Id) → Board → Type 0
Held t none b = Unit {0}
Held t (some ids) b = Has t ids b

held_as : (t : Shard) (b c : Board) → ((ids : List Id) → Has t ids b → Has t ids c) → (drawn : Option (List Id)) → Held t drawn b → Held t drawn c
held_as t b c k none h = tt
held_as t b c k (some ids) h = k ids h

module _ (t : Shard) (b : Board) (ok : seat_check b ≡ true) where
  held_leave : (x : Id) (draws : List ℕ) (drawn : Option (List Id)) → Held t drawn b → Held t (drawn_after t (calls.leave x draws) b drawn) (next (calls.leave x draws) b)
  unfolding calls.answer_to drawn_after
  held_leave x draws none h = by_cases (λ o. Held t o (places.leave x draws b).board) (is_done (calls.leave x draws) b) none none (λ e. tt) (λ e. tt)
  held_leave x draws (some ids) h = go (says (observes t) b x) refl
    where
      go : (c : Bool) → says (observes t) b x ≡ c → Held t (cond (is_done (calls.leave x draws) b) (some (strike x ids)) (some ids)) (places.leave x draws b).board
      go true e =
          let f = at_holds x (observes t) b.machines e in
          rw (observer_leaves t b x draws f.0 (seat_check_formed b ok) f.1 f.2) (leaver_struck t ids b x h)
      go false e = rw (strike_other t ids b ok h x e, cond_const) (leave_has t ids b h x draws e)

  -- a call for a split at u that changes the cohort at t only where u is t and the call is done
  held_at : (u : Shard) (r : Result) (new drawn : Option (List Id)) → (r.answer ≡ Done) ⊎ Untouched b r → (t ≢ u → (ids : List Id) → Has t ids b → Has t ids r.board) → (u ≡ t → eqb (number_of r.answer) 0 ≡ true → Held t new r.board)
      → Held t drawn b → Held t (cond (eqb u t and eqb (number_of r.answer) 0) new drawn) r.board
  unfolding ◌and◌
  held_at u r new drawn left others there h = go (alike u t)
    where
      go : Alike u t → Held t (cond (eqb u t and eqb (number_of r.answer) 0) new drawn) r.board
      go (same p q) = rw q (by_cases (λ o. Held t o r.board) (eqb (number_of r.answer) 0) new drawn (there p) (λ e. rw (undone b r left e) h))
      go (apart p q) = rw q (held_as t b r.board (others (λ e. p (sym e))) drawn h)

  held_draw_cohort : (u : Shard) (draws : List ℕ) (drawn : Option (List Id)) → Held t drawn b → Held t (drawn_after t (calls.draw_cohort u draws) b drawn) (next (calls.draw_cohort u draws) b)
  unfolding calls.answer_to drawn_after
  held_draw_cohort u draws drawn =
      held_at u (reshapes.draw_cohort u draws b) _ drawn (refusal_changes_nothing (calls.draw_cohort u draws) b)
      (λ n ids. drawn_apart t ids u draws b n)
      (λ p d. rw p (split_has t _ (drawn_split t draws b (seat_check_formed b ok) (rw p at d))))

  held_lapse : (u : Shard) (drawn : Option (List Id)) → Held t drawn b → Held t (drawn_after t (calls.lapse u) b drawn) (next (calls.lapse u) b)
  unfolding calls.answer_to drawn_after
  held_lapse u drawn = held_at u (reshapes.lapse u b) none drawn (refusal_changes_nothing (calls.lapse u) b) (λ n ids. lapse_apart t ids u b n) (λ p d. tt)

  held_cut_splits : (drawn : Option (List Id)) → Held t drawn b → Held t (drawn_after t calls.cut_splits b drawn) (next calls.cut_splits b)
  unfolding calls.answer_to drawn_after
  held_cut_splits drawn h = by_cases (λ o. Held t o (cut.cut_splits b).board) (reshape_at split t (cut.cut_splits b).board) drawn none (λ e. held_as t b _ (λ ids g. cut_splits_has t ids b g e) drawn h) (λ e. tt)

  pub held_call : (c : calls.Call) (drawn : Option (List Id)) → Held t drawn b → Held t (drawn_after t c b drawn) (next c b)
  unfolding calls.answer_to drawn_after places.tick
  held_call calls.tick = held_as t b _ (λ ids h. step_keeps (Has t ids) _ b _ _ h (λ p. h))
  held_call (calls.admit_split u) = held_as t b _ (λ ids h. admit_split_has t ids b h (good_of_lem b (seat_check_formed b ok)) u)
  held_call (calls.admit_merge u draws) = held_as t b _ (λ ids h. admit_merge_has t ids b h (good_of_lem b (seat_check_formed b ok)) u draws)
  held_call (calls.mark_seat_ready u x) = held_as t b _ (λ ids h. mark_seat_ready_has t ids b h u x)
  held_call (calls.mark_quiet u side) = held_as t b _ (λ ids h. mark_quiet_has t ids b h u side)
  held_call (calls.draw_cohort u draws) = held_draw_cohort u draws
  held_call (calls.lapse u) = held_lapse u
  held_call (calls.schedule_splits draws) = held_as t b _ (λ ids h. schedule_splits_has t ids b h draws)
  held_call calls.schedule_merges = held_as t b _ (λ ids h. schedule_merges_has t ids b h)
  held_call calls.cut_splits = held_cut_splits
  held_call calls.cut_merges = held_as t b _ (λ ids h. cut_merges_has t ids b h (good_of_lem b (seat_check_formed b ok)))
  held_call (calls.leave x draws) = held_leave x draws
  held_call (calls.rotate s v draws) = held_as t b _ (λ ids h. rotate_has t ids b h s v draws)
  held_call calls.resolve = held_as t b _ (λ ids h. resolve_has t ids b h)
  held_call calls.time_out = held_as t b _ (λ ids h. time_out_has t ids b h)
