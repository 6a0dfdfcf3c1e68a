-- On the way through a cut the seat check fails: what holds instead, and how one after another lands on the new shards.
use mathlib.Core.Path.{◌≡◌, refl, sym, ◌∙◌}
use mathlib.Core.List.{List, [], ◌∷◌}
use mathlib.Core.Option.{Option, none, some}
use mathlib.Core.Bool.{Bool}
use Prim.Native.Nat.{ℕ, ◌+◌, ◌*◌, ◌≤◌, zero-le}
use native.Mathlib.Omega.{arith}
use Rattle.types.specs.Numbers.{Shard, Id}
use Rattle.types.specs.declared.ShardId.{ShardId}
use Rattle.types.specs.declared.Epoch.{Epoch}
use Rattle.types.specs.declared.Place.{Place}
use Rattle.types.specs.declared.Place.TheVariants.{Pooled, Seated, Observing, Short, Other}
use Rattle.rules.specs.Table.{at}
use Rattle.rules.specs.Board.{Board}
use Rattle.rules.specs.Moves.{place, join, put_on}
use Rattle.rules.proofs.Counts.{Alike, same, apart, alike, hit, hit_same, hit_apart, hit_sym, occ}
use Rattle.rules.proofs.Tables.{tally, known_put}
use Rattle.rules.proofs.SeatsLaws.{zero_unless, tally_le}
use Rattle.rules.proofs.Seats.{seats_at, watches_at, here_at, told, in_c, in_split, sched_n, in_halves, party, comm_n, bound_n, kind_at, Frame, Frame-same, Seats, Nowhere, moved}
use Rattle.rules.proofs.SeatsMoves.{join_law}

-- ---- who is still on a shard that is gone

unfoldable pub stray_at : List Shard → Place → ℕ
stray_at old Pooled = 0
stray_at old (Seated t r w) = occ t.0 old
stray_at old (Observing t w) = occ t.0 old
stray_at old Short = 0
stray_at old (Other m) = 0

stray_here : (old : List Shard) (t : Shard) (p : Place) → 1 ≤ occ t old → here_at t p ≤ stray_at old p
unfolding stray_at seats_at watches_at
stray_here old t p h = go p
  where
    near : (u : Shard) → Alike t u → hit t u ≤ occ u old
    near u (same e v) = rw (← e) (omega (arith, hit_same t))
    near u (apart e v) = omega (arith, hit_apart t u e)

    go : (p : Place) → here_at t p ≤ stray_at old p
    go Pooled = omega arith
    go (Seated u r w) = omega (arith, near u.0 (alike t u.0))
    go (Observing u w) = omega (arith, near u.0 (alike t u.0))
    go Short = omega arith
    go (Other m) = omega arith

-- who is astray is on no other shard
stray_only : (old : List Shard) (t : Shard) (p : Place) → 1 ≤ stray_at old p → occ t old ≡ 0 → here_at t p ≡ 0
unfolding stray_at seats_at watches_at
stray_only old t p = go p
  where
    far : (u : Shard) → 1 ≤ occ u old → occ t old ≡ 0 → hit t u ≡ 0
    far u m n = hit_apart t u (λ e. omega (arith, rw e at n))

    go : (p : Place) → 1 ≤ stray_at old p → occ t old ≡ 0 → here_at t p ≡ 0
    go Pooled m n = refl
    go (Seated u r w) m n = omega (arith, far u.0 m n)
    go (Observing u w) m n = omega (arith, far u.0 m n)
    go Short m n = refl
    go (Other m) k n = refl

pub stray_of : (old : List Shard) (o : Option Place) → 1 ≤ tally (stray_at old) o → (p : Place) × (o ≡ some p) × (1 ≤ stray_at old p)
unfolding tally
stray_of old none h = absurd (omega arith)
stray_of old (some p) h = (p, refl, h)

-- shard by shard
pub stray_cons : (s : Shard) (l : List Shard) (o : Option Place) → tally (stray_at (s ∷ l)) o ≡ tally (here_at s) o + tally (stray_at l) o
unfolding tally stray_at seats_at watches_at occ
stray_cons s l none = refl
stray_cons s l (some Pooled) = refl
stray_cons s l (some (Seated t r w)) = omega (arith, hit_sym s t.0)
stray_cons s l (some (Observing t w)) = omega (arith, hit_sym s t.0)
stray_cons s l (some Short) = refl
stray_cons s l (some (Other m)) = refl

pub stray_nil : (o : Option Place) → tally (stray_at []) o ≡ 0
unfolding tally stray_at occ
stray_nil none = refl
stray_nil (some Pooled) = refl
stray_nil (some (Seated t r w)) = refl
stray_nil (some (Observing t w)) = refl
stray_nil (some Short) = refl
stray_nil (some (Other m)) = refl

-- ---- the check on the way: but for the old shards, which are empty, and whose people are all of the list

pub record Cutting (old new : List Shard) (b₀ : Board) (rest : List Id) (b : Board) : Type 0 where
  pub members : (t : Shard) (x : Id) → occ t old ≡ 0 → in_c b t x ≡ told (here_at t) b x
  pub watchers : (t : Shard) (x : Id) → occ t old ≡ 0 → in_split b t x ≡ told (watches_at t) b x
  pub parties : (t : Shard) (x : Id) → occ t old ≡ 0 → party t x b.rotations ≤ told (seats_at t) b x
  pub calm : (t : Shard) (x : Id) → 1 ≤ sched_n b t → party t x b.rotations ≡ 0
  pub halved : (t : Shard) (x : Id) → 1 ≤ sched_n b t → 1 ≤ told (seats_at t) b x → in_halves b t x ≡ 1
  pub frame : Frame (kind_at b) (comm_n b) (bound_n b)
  pub empty : (t : Shard) (x : Id) → 1 ≤ occ t old → (in_c b t x ≡ 0) × (in_split b t x ≡ 0) × (party t x b.rotations ≡ 0) × (sched_n b t ≡ 0)
  pub fresh : (c : Shard) → 1 ≤ occ c new → (comm_n b c ≡ 1) × (sched_n b c ≡ 0) × (occ c old ≡ 0)
  -- nobody has begun to watch
  pub eyes : (t : Shard) (x : Id) → told (watches_at t) b x ≤ told (watches_at t) b₀ x
  pub pending : (x : Id) → told (stray_at old) b x ≤ occ x rest

module _ (old new : List Shard) (b₀ : Board) where
  -- a shard with a scheduled split is not gone
  stays : (t : Shard) (rest : List Id) (b : Board) → Cutting old new b₀ rest b → 1 ≤ sched_n b t → occ t old ≡ 0
  stays t rest b h k = zero_unless (occ t old) (λ o. omega (arith, (h.empty t 0 o).3))

  -- nobody is left: the check holds
  pub cut_done : (b : Board) → Cutting old new b₀ [] b → Seats b
  unfolding occ
  cut_done b h = record {
    members = λ t x. members t x (alike (occ t old) 0);
    watchers = λ t x. watchers t x (alike (occ t old) 0);
    parties = λ t x. parties t x (alike (occ t old) 0);
    calm = h.calm;
    halved = h.halved;
    frame = h.frame;
  }
    where
      here_none : (t : Shard) (x : Id) → 1 ≤ occ t old → told (here_at t) b x ≡ 0
      here_none t x k = omega (arith, tally_le (here_at t) (stray_at old) (λ p. stray_here old t p k) (at x b.machines), h.pending x)

      members : (t : Shard) (x : Id) → Alike (occ t old) 0 → in_c b t x ≡ told (here_at t) b x
      members t x (same p v) = h.members t x p
      members t x (apart p v) = (h.empty t x (omega arith)).0 ∙ sym (here_none t x (omega arith))

      watchers : (t : Shard) (x : Id) → Alike (occ t old) 0 → in_split b t x ≡ told (watches_at t) b x
      watchers t x (same p v) = h.watchers t x p
      watchers t x (apart p v) = omega (arith, (h.empty t x (omega arith)).1, here_none t x (omega arith), tally_le (watches_at t) (here_at t) (λ q. omega arith) (at x b.machines))

      parties : (t : Shard) (x : Id) → Alike (occ t old) 0 → party t x b.rotations ≤ told (seats_at t) b x
      parties t x (same p v) = h.parties t x p
      parties t x (apart p v) = omega (arith, (h.empty t x (omega arith)).2)

  -- one that is not astray is passed over
  cut_pass : (x : Id) (rest : List Id) (b : Board) → told (stray_at old) b x ≡ 0 → Cutting old new b₀ (x ∷ rest) b → Cutting old new b₀ rest b
  unfolding occ
  cut_pass x rest b z h = record {
    members = h.members;
    watchers = h.watchers;
    parties = h.parties;
    calm = h.calm;
    halved = h.halved;
    frame = h.frame;
    empty = h.empty;
    fresh = h.fresh;
    eyes = h.eyes;
    pending = λ y. go y (alike y x);
  }
    where
      go : (y : Id) → Alike y x → told (stray_at old) b y ≤ occ y rest
      go y (same p v) = rw (p, z) zero-le
      go y (apart p v) = omega (arith, hit_apart y x p, h.pending y)

  -- one that is astray: what its move tells
  module _ (x : Id) (move : Place → Place) (p : Place) (rest : List Id) (b : Board) (e : at x b.machines ≡ some p) (lost : 1 ≤ stray_at old p) (h : Cutting old new b₀ (x ∷ rest) b)
      (found : stray_at old (move p) ≡ 0) where
    law : (g : Place → ℕ) (y : Id) → told g (place x move b) y + hit y x * g p ≡ told g b y + hit y x * g (move p)
    unfolding place
    law g y = moved g x y move p b.machines e

    -- it was on no other shard
    off_seat : (t : Shard) → occ t old ≡ 0 → seats_at t p ≡ 0
    off_seat t n = omega (arith, stray_only old t p lost n)

    off_watch : (t : Shard) → occ t old ≡ 0 → watches_at t p ≡ 0
    off_watch t n = omega (arith, stray_only old t p lost n)

    left : (y : Id) → told (stray_at old) (place x move b) y ≤ occ y rest
    unfolding occ tally
    left y = go (alike y x)
      where
        go : Alike y x → told (stray_at old) (place x move b) y ≤ occ y rest
        go (same k v) = rw k (omega (arith, simp (e, found, hit_same) at (law (stray_at old) x)))
        go (apart k v) = omega (arith, simp (hit_apart y x k) at (law (stray_at old) y), h.pending y, hit_apart y x k)

    -- it goes to a place on no shard
    pub cut_clear : Nowhere (move p) → Cutting old new b₀ rest (place x move b)
    unfolding place
    cut_clear np = record {
      members = λ t y n. omega (arith, simp (off_seat t n, off_watch t n, np.seats, np.watches) at (law (here_at t) y), h.members t y n);
      watchers = λ t y n. omega (arith, simp (off_watch t n, np.watches) at (law (watches_at t) y), h.watchers t y n);
      parties = λ t y n. omega (arith, simp (off_seat t n, np.seats) at (law (seats_at t) y), h.parties t y n);
      calm = h.calm;
      halved = λ t y k n. h.halved t y k (omega (arith, simp np.seats at (law (seats_at t) y), n));
      frame = h.frame;
      empty = h.empty;
      fresh = h.fresh;
      eyes = λ t y. omega (arith, simp np.watches at (law (watches_at t) y), h.eyes t y);
      pending = left;
    }

    -- it lands on a new shard
    cut_land : (c : Shard) → 1 ≤ occ c new → ((t : Shard) → seats_at t (move p) ≡ hit t c) → ((t : Shard) → watches_at t (move p) ≡ 0) → Cutting old new b₀ rest (put_on c move x b)
    unfolding put_on join place
    cut_land c k on eye = record {
      members = λ t y n. omega (arith, join_law c x t y (place x move b), simp (off_seat t n, off_watch t n, on, eye) at (law (here_at t) y), h.members t y n);
      watchers = λ t y n. omega (arith, simp (off_watch t n, eye) at (law (watches_at t) y), h.watchers t y n);
      parties = λ t y n. omega (arith, simp (off_seat t n, on) at (law (seats_at t) y), h.parties t y n);
      calm = h.calm;
      halved = λ t y z n. h.halved t y z (omega (arith, simp (off_seat t (stays t (x ∷ rest) b h z), on, other t z) at (law (seats_at t) y), n));
      frame = Frame-same (λ t. refl) standing (λ t z. z) h.frame;
      empty = λ t y z. (omega (arith, simp (apart_new t z) at (join_law c x t y (place x move b)), (h.empty t y z).0), (h.empty t y z).1, (h.empty t y z).2, (h.empty t y z).3);
      fresh = λ d z. (standing d ∙ (h.fresh d z).0, (h.fresh d z).1, (h.fresh d z).2);
      eyes = λ t y. omega (arith, simp eye at (law (watches_at t) y), h.eyes t y);
      pending = left;
    }
      where
        standing : (t : Shard) → comm_n (put_on c move x b) t ≡ comm_n b t
        standing t = known_put t c _ b.committees (h.fresh c k).0

        other : (t : Shard) → 1 ≤ sched_n b t → hit t c ≡ 0
        other t z = hit_apart t c (λ q. omega (arith, (h.fresh c k).1, rw q at z))

        apart_new : (t : Shard) → 1 ≤ occ t old → hit t c ≡ 0
        apart_new t z = hit_apart t c (λ q. omega (arith, (h.fresh c k).2, rw q at z))

-- ---- one of the list

module _ (old new : List Shard) (b₀ : Board) (x : Id) (rest : List Id) (d : Board) (g : Cutting old new b₀ (x ∷ rest) d) where
  -- not astray: passed over
  pub pass : (p : Place) → at x d.machines ≡ some p → stray_at old p ≡ 0 → Cutting old new b₀ rest d
  unfolding tally
  pass p e z = cut_pass old new b₀ x rest d (rw e z) g

  pub pass_none : at x d.machines ≡ none → Cutting old new b₀ rest d
  unfolding tally
  pass_none e = cut_pass old new b₀ x rest d (rw e) g

  -- astray: seated on a new shard
  pub land : (c : Shard) → 1 ≤ occ c new → (move : Place → Place) (p : Place) (u : ShardId) (s : Bool) (w : Epoch) → at x d.machines ≡ some p → 1 ≤ stray_at old p → move p ≡ Seated u s w → u.0 ≡ c
      → Cutting old new b₀ rest (put_on c move x d)
  unfolding stray_at seats_at watches_at
  land c k move p u s w e lost m v = cut_land old new b₀ x move p rest d e lost g (rw (m, v) (g.fresh c k).2) c k (λ i. rw (m, v)) (λ i. rw m)
