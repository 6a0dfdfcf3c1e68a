-- The steps on places and committees keep the seat check: tick, leave, rotate, resolve, time out.
use mathlib.Core.Path.{◌≡◌, refl, ap, sym, ◌∙◌}
use mathlib.Core.List.{List, [], ◌∷◌}
use mathlib.Core.Option.{Option, none, some}
use mathlib.Core.Bool.{Bool, true, false, cond, not, true≢false}
use Prim.Native.Nat.{ℕ, ◌+◌, ◌*◌, ◌≤◌}
use native.Mathlib.Omega.{arith}
use lib.Dec.{leb, ltb}
use lib.ListN.{length}
use Rattle.types.specs.Numbers.{Shard, Id}
use Rattle.types.specs.Shards.{parent_of}
use Rattle.types.specs.Places.{is_pooled, is_seated_on, short, made_ready, drawn_to}
use Rattle.types.specs.declared.ShardId.{ShardId}
use Rattle.types.specs.declared.Epoch.{Epoch}
use Rattle.types.specs.declared.Place.{Place}
use Rattle.types.specs.declared.Place.TheVariants.{Pooled, Seated, Observing, Short, Other}
use Rattle.types.specs.declared.Answer.TheVariants.{NoRecord}
use Rattle.rules.specs.Lists.{◌and◌, bit_of, any, strike}
use Rattle.rules.specs.Table.{at, stands, remove, each, is_some}
use Rattle.rules.specs.Board.{Rotation, Kind, split, merge, Reshape, Board, most_rotations, on_machines, on_rotations, epoch_of}
use Rattle.rules.specs.Moves.{pool_of, place, join, quit, put_on, take_off, for_all, pooled_from, has_party, is_party, open_rotation, drop_first, with_seats, is_kind, reshape_at, give_up_seat}
use Rattle.rules.specs.Turns.{finished, refused, pool_draw}
use Rattle.rules.specs.Places.{tick, is_scheduled_split, is_carved, leave_seat, leave_from_seat, leave_from, leave_turn, leave, in_flight, may_rotate, victim_fit, new_rotation, rotate_turn, rotate, is_resolved, has_seats_free, is_rotation, retire, close, resolved, resolve, is_due, time_out}
use Rattle.rules.proofs.Counts.{Alike, same, apart, alike, eqb_same, hit, hit_same, hit_apart, occ, occ_single}
use Rattle.rules.proofs.Tables.{From, From-update, occ_keys_where, tally, tally_update, tally_remove, tally_same, tally_each, known_most}
use Rattle.rules.proofs.Tests.{and_parts, of_not, eq_of, of_no}
use Rattle.rules.proofs.SeatsLaws.{bit_yes, bit_no, holds_bit, some_bit, stands_bit, tally_le}
use Rattle.rules.proofs.SeatsFormed.{Formed}
use Rattle.rules.proofs.Seats.{pool_of_lem, says_told, seats_at, watches_at, here_at, unit, told, of_split, sitting, in_split, sched_at, sched_n, half_at, total, party_of, party, comm_n, Seats, seats_most, seat_of, here_sum, seats_bit, Nowhere, nowhere_short, nowhere_pooled, moved}
use Rattle.rules.proofs.SeatsMoves.{stands_of, Steady, steady_sched, split_n, split_at, seat_keeps, spare, unseat_keeps, turns_keep, fewer_keep, unseen_keeps, left_all, leaving, unwatch_keeps}
use Rattle.rules.proofs.SeatsRotations.{total_open, total_drop, drop_least, drop_most, none_total, some_total, total_keep, party_yes, party_no}
use Rattle.rules.proofs.Turns.{Finishes, checked_finishes, alone_keeps, pool_draw_finishes}

-- who is in the pool is pooled
in_pool : (b : Board) (x : Id) → From 0 b.machines → 1 ≤ occ x (pool_of b) → at x b.machines ≡ some Pooled
unfolding pool_of
in_pool b x r h = pool_of_lem (at x b.machines) (omega (arith, occ_keys_where is_pooled x 0 b.machines r))

-- a pool draw: an empty pool leaves the board, else one that is pooled is seated
pub pool_finishes : (P : Board → Type 0) (s : Shard) (full : Bool) (also : Id → Board → Board) (draws : List ℕ) (b : Board) → From 0 b.machines → P b
    → ((x : Id) → at x b.machines ≡ some Pooled → P (also x (put_on s (drawn_to s (epoch_of b)) x b))) → Finishes P (pool_draw s full also draws b)
pool_finishes P s full also draws b r p h = pool_draw_finishes P s full also draws b p (λ x o m f. h x (in_pool b x r o))

-- ---- TICK

pub tick_kept : (b : Board) → Seats b → Seats (tick b).board
unfolding tick
tick_kept b h =
    alone_keeps Seats [] b _ h (checked_finishes Seats _ _ (λ p. record { members = h.members; watchers = h.watchers; parties = h.parties; calm = h.calm; halved = h.halved; frame = h.frame }))

-- ---- TIME OUT

-- a change of places that moves nobody
still_keeps : (f : Place → Place) (b : Board) → ((s : Shard) (p : Place) → seats_at s (f p) ≡ seats_at s p) → ((s : Shard) (p : Place) → watches_at s (f p) ≡ watches_at s p)
    → Seats b → Seats (on_machines (each (λ x. f)) b)
still_keeps f b se wa h = record {
  members = λ s x. h.members s x ∙ sym (same_told (here_at s) (λ p. rw (se s p, wa s p)) x);
  watchers = λ s x. h.watchers s x ∙ sym (same_told (watches_at s) (wa s) x);
  parties = λ s x. rw (same_told (seats_at s) (se s) x) (h.parties s x);
  calm = h.calm;
  halved = λ s x k n. h.halved s x k (rw (same_told (seats_at s) (se s) x) at n);
  frame = h.frame;
}
  where
    same_told : (g : Place → ℕ) → ((p : Place) → g (f p) ≡ g p) → (x : Id) → tally g (at x (each (λ y. f) b.machines)) ≡ told g b x
    same_told g e x = tally_each g (λ y. f) (λ y. e) x b.machines

pub time_out_kept : (b : Board) → Seats b → Seats (time_out b).board
unfolding time_out seats_at watches_at
time_out_kept b h =
    alone_keeps Seats [] b _ h (checked_finishes Seats _ _ (λ p. still_keeps (λ p. cond (is_due b p) (made_ready p) p) b (λ s. whoever (seats_at s) (seat s)) (λ s. whoever (watches_at s) (eye s)) h))
  where
    seat : (s : Shard) (p : Place) → seats_at s (made_ready p) ≡ seats_at s p
    seat s Pooled = refl
    seat s (Seated t r w) = refl
    seat s (Observing t w) = refl
    seat s Short = refl
    seat s (Other m) = refl

    eye : (s : Shard) (p : Place) → watches_at s (made_ready p) ≡ watches_at s p
    eye s Pooled = refl
    eye s (Seated t r w) = refl
    eye s (Observing t w) = refl
    eye s Short = refl
    eye s (Other m) = refl

    whoever : (g : Place → ℕ) → ((p : Place) → g (made_ready p) ≡ g p) → (p : Place) → g (cond (is_due b p) (made_ready p) p) ≡ g p
    whoever g e p = go (is_due b p)
      where
        go : (c : Bool) → g (cond c (made_ready p) p) ≡ g p
        go true = e p
        go false = refl

-- ---- who is seated on a shard and no party there leaves it

unseat_one : (s : Shard) (move : Place → Place) (x : Id) (b : Board) → ((t : ShardId) (r : Bool) (w : Epoch) → t.0 ≡ s → Nowhere (move (Seated t r w))) → 1 ≤ told (seats_at s) b x
    → party s x b.rotations ≡ 0 → Seats b → Seats (take_off s move x b)
unfolding seats_at watches_at
unseat_one s move x b np on free h =
    let q = seat_of s (at x b.machines) on in
    unseat_keeps s move x (Seated q.0 q.1 q.2) b q.3 (λ t. rw q.4) (λ t. refl) free (np q.0 q.1 q.2 q.4) h

pub unseat_pooled : (s : Shard) (x : Id) (b : Board) → 1 ≤ told (seats_at s) b x → party s x b.rotations ≡ 0 → Seats b → Seats (take_off s (pooled_from (is_seated_on s)) x b)
unseat_pooled s x b on free h = unseat_one s (pooled_from (is_seated_on s)) x b (λ t r w e. rw (e, eqb_same) nowhere_pooled) on free h

-- ---- LEAVE

-- a reshape of a kind without a machine's seat: nothing else changes
abbrev given : Kind → Id → Reshape → Reshape
given k x r = cond (is_kind k r) (with_seats (remove x) r) r

give_steady : (k : Kind) (x : Id) → Steady (given k x)
give_steady k x = record { kind = λ r. kind r (is_kind k r); sched = λ r. sched r (is_kind k r); halves = λ y r. halves y r (is_kind k r) }
  where
    kind : (r : Reshape) (c : Bool) → (cond c (with_seats (remove x) r) r).kind ≡ r.kind
    kind r true = refl
    kind r false = refl

    sched : (r : Reshape) (c : Bool) → sched_at (cond c (with_seats (remove x) r) r) ≡ sched_at r
    sched r true = refl
    sched r false = refl

    halves : (y : Id) (r : Reshape) (c : Bool) → half_at y (cond c (with_seats (remove x) r) r) ≡ half_at y r
    halves y r true = refl
    halves y r false = refl

-- a keeper's seat is none of a split
keeper_sits : (x y : Id) (r : Reshape) → sitting y (given merge x r) ≡ sitting y r
unfolding is_kind of_split
keeper_sits x y r = go r.kind refl
  where
    go : (k : Kind) → r.kind ≡ k → sitting y (cond (elim k [ split ↦ false | merge ↦ true ]) (with_seats (remove x) r) r) ≡ sitting y r
    go split e = refl
    go merge e = rw e

cohort_sits : (x y : Id) (r : Reshape) → sitting y (given split x r) + hit y x * sitting x r ≡ sitting y r
unfolding is_kind of_split
cohort_sits x y r = go r.kind refl
  where
    go : (k : Kind) → r.kind ≡ k → sitting y (cond (elim k [ split ↦ true | merge ↦ false ]) (with_seats (remove x) r) r) + hit y x * sitting x r ≡ sitting y r
    go split e = rw e (tally_remove unit y x r.seats)
    go merge e = rw e (omega arith)

give_law : (t : Shard) (x : Id) (s : Shard) (y : Id) (b : Board) → in_split (give_up_seat split t x b) s y + hit s t * (hit y x * in_split b t x) ≡ in_split b s y
unfolding give_up_seat tally
give_law t x s y b = omega (arith, tally_update (sitting y) s t (given split x) b.reshapes, ap (λ n. hit s t * n) (less (at t b.reshapes)))
  where
    less : (o : Option Reshape) → tally (λ r. sitting y (given split x r)) o + hit y x * tally (sitting x) o ≡ tally (sitting y) o
    less none = omega arith
    less (some r) = cohort_sits x y r

-- one who is on no shard
nowhere_keeps : (x : Id) (move : Place → Place) (q : Place) (b : Board) → at x b.machines ≡ some q → Nowhere q → Nowhere (move q) → Seats b → Seats (place x move b)
unfolding place
nowhere_keeps x move q b e nq np h = record {
  members = λ t y. omega (arith, simp (nq.seats, nq.watches, np.seats, np.watches) at (moved (here_at t) x y move q b.machines e), h.members t y);
  watchers = λ t y. omega (arith, simp (nq.watches, np.watches) at (moved (watches_at t) x y move q b.machines e), h.watchers t y);
  parties = λ t y. omega (arith, simp (nq.seats, np.seats) at (moved (seats_at t) x y move q b.machines e), h.parties t y);
  calm = h.calm;
  halved = λ t y k n. h.halved t y k (omega (arith, simp (nq.seats, np.seats) at (moved (seats_at t) x y move q b.machines e), n));
  frame = h.frame;
}

-- one who watches is struck from committee and cohort
leave_watch : (x : Id) (u : ShardId) (w : Epoch) (b : Board) → at x b.machines ≡ some (Observing u w) → Seats b → Seats (give_up_seat split u.0 x (take_off u.0 short x b))
unfolding give_up_seat take_off quit place tally seats_at watches_at
leave_watch x u w b e h =
    left_all u.0 _ (unwatch_keeps u.0 short x (Observing u w) [] _ e (λ s. refl) (λ s. refl) nowhere_short
    (leaving u.0 (given split x) (x ∷ []) b (give_steady split x) gone h))
  where
    sits : in_split b u.0 x ≡ 1
    sits = h.watchers u.0 x ∙ simp (e, hit_same)

    gone : (s : Shard) (y : Id) → in_split (give_up_seat split u.0 x b) s y + hit s u.0 * occ y (x ∷ []) ≡ in_split b s y
    gone s y = simp occ_single (omega (arith, rw sits at (give_law u.0 x s y b)))

-- 'struck from committee and from keepers'
leave_seat_keeps : (s : Shard) (x : Id) (b : Board) → 1 ≤ told (seats_at s) b x → party s x b.rotations ≡ 0 → Seats b → Seats (leave_seat s x b)
unfolding leave_seat give_up_seat
leave_seat_keeps s x b on free h = unseen_keeps (parent_of s) _ _ (give_steady merge x) (keeper_sits x) (unseat_one s short x b (λ t r w e. nowhere_short) on free h)

-- a scheduled split, as a number
pub sched_bit : (r : Reshape) → bit_of (is_scheduled_split r) ≡ sched_at r
unfolding is_scheduled_split is_kind of_split ◌and◌
sched_bit r = go r.kind
  where
    go : (k : Kind) → bit_of ((elim k [ split ↦ true | merge ↦ false ]) and is_some r.terminal) ≡ of_split k (tally unit r.terminal)
    go split = some_bit r.terminal
    go merge = refl

-- the first rotation of a party gone, it is a party no more
leave_party : (s : Shard) (x : Id) (b : Board) → 1 ≤ told (seats_at s) b x → is_party s x b ≡ true → Seats b → Seats (on_rotations (drop_first (has_party s x)) (leave_seat s x b))
unfolding leave_seat give_up_seat take_off quit place is_party
leave_party s x b on p h =
    leave_seat_keeps s x (on_rotations (drop_first (has_party s x)) b) on free
    (fewer_keep (drop_first (has_party s x)) b (λ t y. total_drop (party_of t y) (has_party s x) b.rotations) h)
  where
    free : party s x (drop_first (has_party s x) b.rotations) ≡ 0
    free = omega (arith, drop_least (party_of s x) (has_party s x) 1 (party_yes s x) b.rotations p, h.parties s x, seats_most s (at x b.machines))

-- one from the pool takes the place
leave_fill : (s : Shard) (x : Id) (draws : List ℕ) (b : Board) → From 0 b.machines → 1 ≤ told (seats_at s) b x → sched_n b s ≡ 0 → Seats b → Seats (leave_seat s x b)
    → Finishes Seats (pool_draw s false (λ y c. c) draws (leave_seat s x b))
unfolding leave_seat give_up_seat take_off quit place
leave_fill s x draws b ids on calm h k =
    pool_finishes Seats s false (λ y c. c) draws (leave_seat s x b) (From-update x short 0 b.machines ids) k
    (λ y e. seat_keeps s (epoch_of b) y (leave_seat s x b) e comm sched k)
  where
    comm : comm_n (leave_seat s x b) s ≡ 1
    comm = tally_same unit (strike x) (λ v. refl) s s b.committees ∙ stands_of x (at s b.committees) (omega (arith, h.members s x, here_sum s (at x b.machines)))

    sched : sched_n (leave_seat s x b) s ≡ 0
    sched = steady_sched (parent_of s) _ b.reshapes (give_steady merge x) s ∙ calm

leave_seat_lem : (s : Shard) (x : Id) (draws : List ℕ) (b : Board) → From 0 b.machines → 1 ≤ told (seats_at s) b x → Seats b → Finishes Seats (leave_from_seat s x draws b)
unfolding leave_from_seat is_carved is_party
leave_seat_lem s x draws b ids on h = go (is_party s x b) refl (is_carved s b) refl
  where
    out : is_party s x b ≡ false → Seats (leave_seat s x b)
    out p = leave_seat_keeps s x b on (none_total (party_of s x) (has_party s x) (party_no s x) b.rotations p) h

    go : (c : Bool) → is_party s x b ≡ c → (d : Bool) → is_carved s b ≡ d
        → Finishes Seats (cond c (finished 0 draws (on_rotations (drop_first (has_party s x)) (leave_seat s x b)))
        (cond d (finished 0 draws (leave_seat s x b)) (pool_draw s false (λ y c. c) draws (leave_seat s x b))))
    go true p d q = leave_party s x b on p h
    go false p true q = out p
    go false p false q = leave_fill s x draws b ids on (sym (holds_bit is_scheduled_split sched_at sched_bit s b.reshapes) ∙ bit_no _ q) h (out p)

leave_from_lem : (p : Place) (x : Id) (draws : List ℕ) (b : Board) → at x b.machines ≡ some p → From 0 b.machines → Seats b → Finishes Seats (leave_from p x draws b)
unfolding leave_from tally seats_at watches_at
leave_from_lem Pooled x draws b e ids h = nowhere_keeps x short Pooled b e nowhere_pooled nowhere_short h
leave_from_lem (Seated s r w) x draws b e ids h = leave_seat_lem s.0 x draws b ids (rw e (omega (arith, hit_same s.0))) h
leave_from_lem (Observing s w) x draws b e ids h = leave_watch x s w b e h
leave_from_lem Short x draws b e ids h = nowhere_keeps x short Short b e nowhere_short nowhere_short h
leave_from_lem (Other m) x draws b e ids h = nowhere_keeps x short (Other m) b e (record { seats = λ s. refl; watches = λ s. refl }) nowhere_short h

pub leave_kept : (x : Id) (draws : List ℕ) (b : Board) → Formed b → Seats b → Seats (leave x draws b).board
unfolding leave leave_turn
leave_kept x draws b wf h = alone_keeps Seats draws b _ h (checked_finishes Seats _ _ (λ p. go (at x b.machines) refl))
  where
    go : (o : Option Place) → at x b.machines ≡ o → Finishes Seats (elim o [ none ↦ refused NoRecord | some p ↦ leave_from p x draws b ])
    go none e = tt
    go (some p) e = leave_from_lem p x draws b e wf.ids h

-- ---- ROTATE

-- the victim is seated and no party, the entrant comes from the pool
rotate_one : (s : Shard) (v x : Id) (b : Board) → at x b.machines ≡ some Pooled → comm_n b s ≡ 1 → sched_n b s ≡ 0 → 1 ≤ told (seats_at s) b v → party s v b.rotations ≡ 0
    → Seats b → Seats (on_rotations (open_rotation (new_rotation s v x b)) (put_on s (drawn_to s (epoch_of b)) x b))
unfolding put_on join place seats_at
rotate_one s v x b e c d on free h =
    turns_keep (open_rotation (new_rotation s v x b)) (put_on s (drawn_to s (epoch_of b)) x b)
    (λ t y. omega (arith, total_open (party_of t y) (new_rotation s v x b) b.rotations, moved (seats_at t) x y (drawn_to s (epoch_of b)) Pooled b.machines e, spare s v b on free h t y))
    (λ t y k. omega (arith, rw (hit_apart t s (λ p. omega (arith, rw p at k))) at (total_open (party_of t y) (new_rotation s v x b) b.rotations), h.calm t y k))
    (seat_keeps s (epoch_of b) x b e c d h)

-- only splits are scheduled
sched_split : (o : Option Reshape) → tally sched_at o ≤ tally (λ r. of_split r.kind 1) o
unfolding of_split
sched_split o = tally_le sched_at (λ r. of_split r.kind 1) (λ r. go r.kind r.terminal) o
  where
    go : (k : Kind) (o : Option ℕ) → of_split k (tally unit o) ≤ of_split k 1
    go split o = known_most o
    go merge o = omega arith

rotate_turn_lem : (s : Shard) (v : Id) (draws : List ℕ) (b : Board) → may_rotate s b ≡ true → From 0 b.machines → Seats b → Finishes Seats (rotate_turn s v draws b)
unfolding rotate_turn may_rotate victim_fit is_party
rotate_turn_lem s v draws b may ids h = checked_finishes Seats _ _ (λ k.
    let fit = and_parts _ _ (of_no _ k.0) in
    pool_finishes Seats s (leb most_rotations (length b.rotations)) (λ x. on_rotations (open_rotation (new_rotation s v x b))) draws b ids h (λ x e.
    rotate_one s v x b e comm calm
    (omega (arith, says_told (is_seated_on s) (seats_at s) (seats_bit s) b v fit.0))
    (none_total (party_of s v) (has_party s v) (party_no s v) b.rotations (of_not _ fit.1)) h))
  where
    there : (stands s b.committees ≡ true) × ((not (reshape_at split s b) and ltb (in_flight s b) b.settings.most) ≡ true)
    there = and_parts _ _ (and_parts _ _ (and_parts _ _ may).1).1

    comm : comm_n b s ≡ 1
    comm = sym (stands_bit s b.committees) ∙ bit_yes _ there.0

    none_there : split_n b s ≡ 0
    none_there = sym (split_at s b) ∙ bit_no (reshape_at split s b) (of_not (reshape_at split s b) (and_parts _ _ there.1).0)

    calm : sched_n b s ≡ 0
    calm = omega (arith, sched_split (at s b.reshapes), none_there)

pub rotate_kept : (s : Shard) (v : Id) (draws : List ℕ) (b : Board) → Formed b → Seats b → Seats (rotate s v draws b).board
unfolding rotate
rotate_kept s v draws b wf h = alone_keeps Seats draws b _ h (checked_finishes Seats _ _ (λ p. go (may_rotate s b) refl))
  where
    go : (c : Bool) → may_rotate s b ≡ c → Finishes Seats (cond c (rotate_turn s v draws b) (finished 0 draws b))
    go true e = rotate_turn_lem s v draws b e wf.ids h
    go false e = h

-- ---- RESOLVE

-- a rotation of the shard with this victim
abbrev victim_of : Shard → Id → Rotation → ℕ
victim_of s v r = hit s r.shard * hit v r.victim

victim_yes : (s : Shard) (v : Id) (r : Rotation) → is_rotation s v r ≡ true → (r.shard ≡ s) × (r.victim ≡ v)
victim_yes s v r h = let p = and_parts _ _ h in (eq_of _ _ p.0, eq_of _ _ p.1)

victim_no : (s : Shard) (v : Id) (r : Rotation) → is_rotation s v r ≡ false → victim_of s v r ≡ 0
unfolding ◌and◌
victim_no s v r h = go (alike r.shard s) (alike r.victim v)
  where
    go : Alike r.shard s → Alike r.victim v → victim_of s v r ≡ 0
    go (apart p u) c = rw (hit_apart s r.shard (λ z. p (sym z))) (omega arith)
    go (same p u) (apart q w) = rw (hit_apart v r.victim (λ z. q (sym z))) (omega arith)
    go (same p u) (same q w) = absurd (true≢false (rw (u, w) at h))

-- the rotations of a list still stand, each with its victim
Open : List Rotation → Board → Type 0
Open l b = (s : Shard) (v : Id) → total (victim_of s v) l ≤ total (victim_of s v) b.rotations

-- one is closed: it goes, its victim is no party any more and may go
close_keeps : (r : Rotation) (l : List Rotation) (b : Board) → Open (r ∷ l) b → Seats b → Open l (close r b) × Seats (close r b)
unfolding close retire take_off quit place total Open
close_keeps r l b o h = go (has_seats_free s c)
  where
    s : Shard
    s = r.shard

    v : Id
    v = r.victim

    c : Board
    c = on_rotations (drop_first (is_rotation s v)) b

    stands_open : any (is_rotation s v) b.rotations ≡ true
    stands_open = some_total (victim_of s v) (is_rotation s v) (victim_no s v) b.rotations (omega (arith, simp hit_same at (o s v)))

    -- the victim's only part goes
    least : 1 + party s v c.rotations ≤ party s v b.rotations
    least = drop_least (party_of s v) (is_rotation s v) 1 (λ q e. let k = victim_yes s v q e in simp (k.0, k.1, hit_same) (omega arith)) b.rotations stands_open

    h1 : Seats c
    h1 = fewer_keep (drop_first (is_rotation s v)) b (λ t y. total_drop (party_of t y) (is_rotation s v) b.rotations) h

    still : Open l c
    still t y = omega (arith, o t y, drop_most (victim_of t y) (is_rotation s v) (hit t s * hit y v) (λ q e. let k = victim_yes s v q e in rw (k.0, k.1) (omega arith)) b.rotations)

    go : (z : Bool) → Open l (cond z c (take_off s (pooled_from (is_seated_on s)) v c)) × Seats (cond z c (take_off s (pooled_from (is_seated_on s)) v c))
    go true = (still, h1)
    go false = (still, unseat_pooled s v c (omega (arith, least, h.parties s v)) (omega (arith, least, h.parties s v, seats_most s (at v b.machines))) h1)

close_all : (l : List Rotation) (b : Board) → Open l b → Seats b → Seats (for_all close l b)
unfolding for_all
close_all [] b o h = h
close_all (r ∷ l) b o h = let c = close_keeps r l b o h in close_all l (close r b) c.0 c.1

pub resolve_kept : (b : Board) → Seats b → Seats (resolve b).board
unfolding resolve resolved Open
resolve_kept b h = alone_keeps Seats [] b _ h (checked_finishes Seats _ _ (λ p. close_all (resolved b) b (λ s v. total_keep (victim_of s v) (is_resolved b) b.rotations) h))
