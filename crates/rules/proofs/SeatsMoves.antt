-- Each move keeps the seat check.
use mathlib.Core.Path.{◌≡◌, refl, ap, ◌∙◌}
use mathlib.Core.List.{List, [], ◌∷◌, ◌++◌}
use mathlib.Core.Option.{Option, none, some, map, some-injective}
use mathlib.Core.Bool.{Bool, true, false, cond, false≢true}
use Prim.Native.Nat.{ℕ, ◌+◌, ◌*◌, ◌≤◌}
use native.Mathlib.Omega.{arith}
use lib.Dec.{eqb}
use Rattle.types.specs.Numbers.{Shard, Id, Epoch}
use Rattle.types.specs.Places.{shard_id, epoch_at, drawn_to, set_to_watch}
use Rattle.types.specs.declared.Place.{Place}
use Rattle.types.specs.declared.Place.TheVariants.{Pooled, Seated, Observing}
use Rattle.rules.specs.Lists.{bit_of, strike}
use Rattle.rules.specs.Table.{Table, at, put, update}
use Rattle.rules.specs.Board.{Rotation, Kind, split, merge, Seat, Reshape, Board, on_rotations, on_reshapes, epoch_of}
use Rattle.rules.specs.Moves.{members_of, place, join, quit, put_on, take_off, for_all, with_seats, is_kind, reshape_at, new_seat, watch}
use Rattle.rules.proofs.Counts.{Alike, same, apart, alike, hit, hit_same, hit_apart, occ, occ_append, occ_single, occ_strike}
use Rattle.rules.proofs.Tables.{tally, at_each, tally_update, tally_put, tally_same, known_put}
use Rattle.rules.proofs.SeatsLaws.{holds_bit}
use Rattle.rules.proofs.Seats.{seats_at, watches_at, here_at, unit, told, in_c, of_split, sitting, in_split, sched_at, sched_n, half_at, in_halves, party, comm_n, bound_n, kind_of, kind_at, Frame, Frame-same, Seats, Nowhere, moved}

-- ---- one move after another

-- a change that each move leaves alone may as well come first
pub for_all_swap : {A : Type 0} (g : Board → Board) (move : A → Board → Board) → ((x : A) (b : Board) → g (move x b) ≡ move x (g b)) → (l : List A) (b : Board) → g (for_all move l b) ≡ for_all move l (g b)
unfolding for_all
for_all_swap g move k [] b = refl
for_all_swap g move k (x ∷ l) b = for_all_swap g move k l (move x b) ∙ ap (for_all move l) (k x b)

-- ---- laws of the committees

pub occ_members : (b : Board) (s : Shard) (x : Id) → occ x (members_of s b) ≡ in_c b s x
unfolding members_of tally occ
occ_members b s x = go (at s b.committees)
  where
    go : (o : Option (List Id)) → occ x (elim o [ none ↦ [] | some l ↦ l ]) ≡ tally (occ x) o
    go none = refl
    go (some l) = refl

-- one joins, one is struck
pub join_law : (s : Shard) (x : Id) (t : Shard) (y : Id) (b : Board) → in_c (join s x b) t y ≡ in_c b t y + hit t s * hit y x
unfolding join
join_law s x t y b = omega (arith, simp (occ_append, occ_single, occ_members) at (tally_put (occ y) t s (members_of s b ++ (x ∷ [])) b.committees))

quit_law : (s : Shard) (x : Id) (t : Shard) (y : Id) (b : Board) → in_c (quit s x b) t y + hit t s * (hit y x * in_c b s x) ≡ in_c b t y
unfolding quit tally
quit_law s x t y b = omega (arith, tally_update (occ y) t s (strike x) b.committees, ap (λ n. hit t s * n) (struck (at s b.committees)))
  where
    struck : (o : Option (List Id)) → tally (λ l. occ y (strike x l)) o + hit y x * tally (occ x) o ≡ tally (occ y) o
    struck none = omega arith
    struck (some l) = occ_strike x y l

-- a committee with a member stands
pub stands_of : (x : Id) (o : Option (List Id)) → 1 ≤ tally (occ x) o → tally unit o ≡ 1
unfolding tally
stands_of x none h = absurd (omega arith)
stands_of x (some l) h = refl

-- ---- laws of the reshapes

pub kind_update : (s t : Shard) (f : Reshape → Reshape) (c : Table Reshape) → ((r : Reshape) → (f r).kind ≡ r.kind) → kind_of (at t (update s f c)) ≡ kind_of (at t c)
unfolding update
kind_update s t f c e = rw (at_each (λ k v. cond (eqb k s) (f v) v) t c) (go (at t c) (eqb t s))
  where
    go : (o : Option Reshape) (z : Bool) → kind_of (map (λ v. cond z (f v) v) o) ≡ kind_of o
    go none z = refl
    go (some r) true = ap some (e r)
    go (some r) false = refl

-- the kind of what stands at a shard
pub kind_of_lem : (t : Shard) (r : Reshape) (k : Kind) (b : Board) → at t b.reshapes ≡ some r → kind_at b t ≡ some k → r.kind ≡ k
kind_of_lem t r k b e h = some-injective r.kind k (rw e at h)

pub kind_is : (k : Kind) (r : Reshape) → is_kind k r ≡ true → r.kind ≡ k
unfolding is_kind
kind_is split r h = go r.kind h
  where
    go : (k : Kind) → (elim k [ split ↦ true | merge ↦ false ]) ≡ true → k ≡ split
    go split e = refl
    go merge e = absurd (false≢true e)
kind_is merge r h = go r.kind h
  where
    go : (k : Kind) → (elim k [ split ↦ false | merge ↦ true ]) ≡ true → k ≡ merge
    go split e = absurd (false≢true e)
    go merge e = refl

-- a change that leaves a reshape's kind, terminal and halves
pub record Steady (f : Reshape → Reshape) : Type 0 where
  pub kind : (r : Reshape) → (f r).kind ≡ r.kind
  pub sched : (r : Reshape) → sched_at (f r) ≡ sched_at r
  pub halves : (x : Id) (r : Reshape) → half_at x (f r) ≡ half_at x r

pub steady_seats : (f : Table Seat → Table Seat) → Steady (with_seats f)
steady_seats f = record { kind = λ r. refl; sched = λ r. refl; halves = λ x r. refl }

module _ (t : Shard) (f : Reshape → Reshape) (c : Table Reshape) (q : Steady f) where
  steady_kind : (s : Shard) → kind_of (at s (update t f c)) ≡ kind_of (at s c)
  steady_kind s = kind_update t s f c q.kind

  pub steady_sched : (s : Shard) → tally sched_at (at s (update t f c)) ≡ tally sched_at (at s c)
  steady_sched s = tally_same sched_at f q.sched s t c

  steady_half : (s : Shard) (x : Id) → tally (half_at x) (at s (update t f c)) ≡ tally (half_at x) (at s c)
  steady_half s x = tally_same (half_at x) f (q.halves x) s t c

-- nothing counted is nothing, whatever the kind; so an empty cohort has no seat
pub none_split : (k : Kind) → of_split k 0 ≡ 0
unfolding of_split
none_split split = refl
none_split merge = refl

pub no_seats : (x : Id) (k : Kind) → of_split k (tally {A = Seat} unit (at x [])) ≡ 0
unfolding at tally
no_seats x k = none_split k

-- a split at the shard
abbrev pub split_n : Board → Shard → ℕ
split_n b s = tally (λ r. of_split r.kind 1) (at s b.reshapes)

pub split_bit : (r : Reshape) → bit_of (is_kind split r) ≡ of_split r.kind 1
unfolding is_kind of_split
split_bit r = go r.kind
  where
    go : (k : Kind) → bit_of (elim k [ split ↦ true | merge ↦ false ]) ≡ of_split k 1
    go split = refl
    go merge = refl

pub split_at : (s : Shard) (b : Board) → bit_of (reshape_at split s b) ≡ split_n b s
split_at s b = holds_bit (is_kind split) (λ r. of_split r.kind 1) split_bit s b.reshapes

kind_split : (o : Option Reshape) → 1 ≤ tally (λ r. of_split r.kind 1) o → kind_of o ≡ some split
unfolding tally of_split
kind_split none h = absurd (omega arith)
kind_split (some r) h = go r.kind h
  where
    go : (k : Kind) → 1 ≤ of_split k 1 → ◌≡◌ {A = Option Kind} (some k) (some split)
    go split z = refl
    go merge z = absurd (omega arith)

-- a seat is put
sit_law : (t : Shard) (x : Id) (q : Seat) (s : Shard) (y : Id) (c : Table Reshape)
    → tally (sitting y) (at s (update t (with_seats (put x q)) c)) + hit s t * (hit y x * tally (sitting x) (at t c)) ≡ tally (sitting y) (at s c) + hit s t * (hit y x * tally (λ r. of_split r.kind 1) (at t c))
unfolding tally of_split
sit_law t x q s y c = omega (arith, tally_update (sitting y) s t (with_seats (put x q)) c, ap (λ n. hit s t * n) (more (at t c)))
  where
    per : (k : Kind) (l : Table Seat) → of_split k (tally unit (at y (put x q l))) + hit y x * of_split k (tally unit (at x l)) ≡ of_split k (tally unit (at y l)) + hit y x * of_split k 1
    per split l = tally_put unit y x q l
    per merge l = omega arith

    more : (o : Option Reshape) → tally (λ r. sitting y (with_seats (put x q) r)) o + hit y x * tally (sitting x) o ≡ tally (sitting y) o + hit y x * tally (λ r. of_split r.kind 1) o
    more none = omega arith
    more (some r) = per r.kind r.seats

-- ---- MOVE 1: a pooled machine is seated

pub seat_keeps : (s : Shard) (e : Epoch) (x : Id) (b : Board) → at x b.machines ≡ some Pooled → comm_n b s ≡ 1 → sched_n b s ≡ 0 → Seats b → Seats (put_on s (drawn_to s e) x b)
unfolding put_on join place seats_at watches_at
seat_keeps s e x b p c d h = record {
  members = λ t y. omega (arith, join_law s x t y (place x (drawn_to s e) b), law (here_at t) y, h.members t y);
  watchers = λ t y. omega (arith, law (watches_at t) y, h.watchers t y);
  parties = λ t y. omega (arith, law (seats_at t) y, h.parties t y);
  calm = h.calm;
  halved = λ t y k n. h.halved t y k (omega (arith, rw (off t k) at (law (seats_at t) y), n));
  frame = Frame-same (λ t. refl) (λ t. known_put t s _ b.committees c) (λ t k. k) h.frame;
}
  where
    law : (g : Place → ℕ) (y : Id) → told g (place x (drawn_to s e) b) y + hit y x * g Pooled ≡ told g b y + hit y x * g (Seated (shard_id s) false (epoch_at e))
    law g y = moved g x y (drawn_to s e) Pooled b.machines p

    off : (t : Shard) → 1 ≤ sched_n b t → hit t s ≡ 0
    off t k = hit_apart t s (λ q. omega (arith, rw q at k))

-- room for one more part of one who is seated and no party
pub spare : (s : Shard) (x : Id) (b : Board) → 1 ≤ told (seats_at s) b x → party s x b.rotations ≡ 0 → Seats b → (t : Shard) (y : Id) → party t y b.rotations + hit y x * hit t s ≤ told (seats_at t) b y
spare s x b on free h t y = go (alike t s) (alike y x)
  where
    go : Alike t s → Alike y x → party t y b.rotations + hit y x * hit t s ≤ told (seats_at t) b y
    go (same u v) (same k l) = rw (u, k, free) (simp hit_same (omega arith))
    go (same u v) (apart k l) = rw (hit_apart y x k) (omega (arith, h.parties t y))
    go (apart u v) c = rw (hit_apart t s u) (omega (arith, h.parties t y))

-- ---- MOVE 2: a machine that is seated on a shard and party to no rotation there goes to a place on no shard

pub unseat_keeps : (s : Shard) (move : Place → Place) (x : Id) (q : Place) (b : Board) → at x b.machines ≡ some q → ((t : Shard) → seats_at t q ≡ hit t s) → ((t : Shard) → watches_at t q ≡ 0)
    → party s x b.rotations ≡ 0 → Nowhere (move q) → Seats b → Seats (take_off s move x b)
unfolding take_off quit place tally
unseat_keeps s move x q b e on eye free np h = record {
  members = λ t y. omega (arith, rw there at (quit_law s x t y (place x move b)), simp (on, eye, np.seats, np.watches) at (law (here_at t) y), h.members t y);
  watchers = λ t y. omega (arith, simp (eye, np.watches) at (law (watches_at t) y), h.watchers t y);
  parties = λ t y. omega (arith, simp (on, np.seats) at (law (seats_at t) y), spare s x b (rw e (rw (on s) (omega (arith, hit_same s)))) free h t y);
  calm = h.calm;
  halved = λ t y k n. h.halved t y k (omega (arith, simp (on, np.seats) at (law (seats_at t) y), n));
  frame = Frame-same (λ t. refl) (λ t. tally_same unit (strike x) (λ v. refl) t s b.committees) (λ t k. k) h.frame;
}
  where
    there : in_c b s x ≡ 1
    there = h.members s x ∙ simp (e, on, eye, hit_same)

    law : (g : Place → ℕ) (y : Id) → told g (place x move b) y + hit y x * g q ≡ told g b y + hit y x * g (move q)
    law g y = moved g x y move q b.machines e

-- ---- MOVE 3: other rotations, or fewer

pub turns_keep : (f : List Rotation → List Rotation) (b : Board) → ((s : Shard) (x : Id) → party s x (f b.rotations) ≤ told (seats_at s) b x)
    → ((s : Shard) (x : Id) → 1 ≤ sched_n b s → party s x (f b.rotations) ≡ 0)
    → Seats b → Seats (on_rotations f b)
turns_keep f b p q h = record { members = h.members; watchers = h.watchers; parties = p; calm = q; halved = h.halved; frame = h.frame }

pub fewer_keep : (f : List Rotation → List Rotation) (b : Board) → ((s : Shard) (x : Id) → party s x (f b.rotations) ≤ party s x b.rotations) → Seats b → Seats (on_rotations f b)
fewer_keep f b p h = turns_keep f b (λ s x. omega (arith, p s x, h.parties s x)) (λ s x k. omega (arith, p s x, h.calm s x k)) h

-- ---- MOVE 4: a reshape is changed in what the check does not count

pub unseen_keeps : (t : Shard) (f : Reshape → Reshape) (b : Board) → Steady f → ((x : Id) (r : Reshape) → sitting x (f r) ≡ sitting x r) → Seats b → Seats (on_reshapes (update t f) b)
unseen_keeps t f b q sits h = record {
  members = h.members;
  watchers = λ s x. tally_same (sitting x) f (sits x) s t b.reshapes ∙ h.watchers s x;
  parties = h.parties;
  calm = λ s x k. h.calm s x (rw (steady_sched t f b.reshapes q s) at k);
  halved = λ s x k n. steady_half t f b.reshapes q s x ∙ h.halved s x (rw (steady_sched t f b.reshapes q s) at k) n;
  frame = Frame-same (steady_kind t f b.reshapes q) (λ s. refl) (λ s k. k) h.frame;
}

-- ---- MOVE 5: watchers without a seat leave, one by one

-- the check but for those of a list, who still watch though their seats are gone
pub record Leaving (t : Shard) (rest : List Id) (b : Board) : Type 0 where
  pub members : (s : Shard) (x : Id) → in_c b s x ≡ told (here_at s) b x
  pub watchers : (s : Shard) (x : Id) → in_split b s x + hit s t * occ x rest ≡ told (watches_at s) b x
  pub parties : (s : Shard) (x : Id) → party s x b.rotations ≤ told (seats_at s) b x
  pub calm : (s : Shard) (x : Id) → 1 ≤ sched_n b s → party s x b.rotations ≡ 0
  pub halved : (s : Shard) (x : Id) → 1 ≤ sched_n b s → 1 ≤ told (seats_at s) b x → in_halves b s x ≡ 1
  pub frame : Frame (kind_at b) (comm_n b) (bound_n b)

pub left_all : (t : Shard) (b : Board) → Leaving t [] b → Seats b
unfolding occ
left_all t b h = record { members = h.members; watchers = λ s x. omega (arith, h.watchers s x); parties = h.parties; calm = h.calm; halved = h.halved; frame = h.frame }

-- the seats go
pub leaving : (t : Shard) (f : Reshape → Reshape) (gone : List Id) (b : Board) → Steady f
    → ((s : Shard) (x : Id) → in_split (on_reshapes (update t f) b) s x + hit s t * occ x gone ≡ in_split b s x) → Seats b → Leaving t gone (on_reshapes (update t f) b)
leaving t f gone b q e h = record {
  members = h.members;
  watchers = λ s x. e s x ∙ h.watchers s x;
  parties = h.parties;
  calm = λ s x k. h.calm s x (rw (steady_sched t f b.reshapes q s) at k);
  halved = λ s x k n. steady_half t f b.reshapes q s x ∙ h.halved s x (rw (steady_sched t f b.reshapes q s) at k) n;
  frame = Frame-same (steady_kind t f b.reshapes q) (λ s. refl) (λ s k. k) h.frame;
}

-- one of them leaves
pub unwatch_keeps : (t : Shard) (move : Place → Place) (x : Id) (q : Place) (rest : List Id) (b : Board) → at x b.machines ≡ some q → ((s : Shard) → watches_at s q ≡ hit s t)
    → ((s : Shard) → seats_at s q ≡ 0)
    → Nowhere (move q) → Leaving t (x ∷ rest) b → Leaving t rest (take_off t move x b)
unfolding take_off quit place tally occ
unwatch_keeps t move x q rest b e eye off np h = record {
  members = λ s y. omega (arith, rw there at (quit_law t x s y (place x move b)), simp (off, eye, np.seats, np.watches) at (law (here_at s) y), h.members s y);
  watchers = λ s y. omega (arith, simp (eye, np.watches) at (law (watches_at s) y), h.watchers s y);
  parties = λ s y. omega (arith, simp (off, np.seats) at (law (seats_at s) y), h.parties s y);
  calm = h.calm;
  halved = λ s y k n. h.halved s y k (omega (arith, simp (off, np.seats) at (law (seats_at s) y), n));
  frame = Frame-same (λ s. refl) (λ s. tally_same unit (strike x) (λ v. refl) s t b.committees) (λ s k. k) h.frame;
}
  where
    there : in_c b t x ≡ 1
    there = h.members t x ∙ simp (e, off, eye, hit_same)

    law : (g : Place → ℕ) (y : Id) → told g (place x move b) y + hit y x * g q ≡ told g b y + hit y x * g (move q)
    law g y = moved g x y move q b.machines e

-- ---- MOVE 6: a pooled machine watches a split's target

pub watch_keeps : (t c : Shard) (x : Id) (b : Board) → at x b.machines ≡ some Pooled → split_n b t ≡ 1 → Seats b → Seats (watch t c x b)
unfolding watch put_on join place tally occ seats_at watches_at
watch_keeps t c x b e sp h = record {
  members = λ s y. omega (arith, join_law t x s y (place x (set_to_watch t (epoch_of b)) b), law (here_at s) y, h.members s y);
  watchers = λ s y. omega (arith, simp (free, sp) at (sit_law t x (new_seat c) s y b.reshapes), law (watches_at s) y, h.watchers s y);
  parties = λ s y. omega (arith, law (seats_at s) y, h.parties s y);
  calm = λ s y k. h.calm s y (rw (steady_sched t (with_seats (put x (new_seat c))) b.reshapes q s) at k);
  halved = λ s y k n. steady_half t (with_seats (put x (new_seat c))) b.reshapes q s y ∙ h.halved s y (rw (steady_sched t (with_seats (put x (new_seat c))) b.reshapes q s) at k) (omega (arith, law (seats_at s) y, n));
  frame = Frame-same (steady_kind t (with_seats (put x (new_seat c))) b.reshapes q) (λ s. known_put s t _ b.committees home) (λ s k. k) h.frame;
}
  where
    q : Steady (with_seats (put x (new_seat c)))
    q = steady_seats (put x (new_seat c))

    home : comm_n b t ≡ 1
    home = h.frame.homes t t split (kind_split (at t b.reshapes) (omega arith)) (omega (arith, hit_same t))

    law : (g : Place → ℕ) (y : Id) → told g (place x (set_to_watch t (epoch_of b)) b) y + hit y x * g Pooled ≡ told g b y + hit y x * g (Observing (shard_id t) (epoch_at (epoch_of b)))
    law g y = moved g x y (set_to_watch t (epoch_of b)) Pooled b.machines e

    free : in_split b t x ≡ 0
    free = h.watchers t x ∙ simp e
