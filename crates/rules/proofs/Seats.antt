-- The seat check as counts: every clause is an equation or an inequality between numbers, so that a move is a change of numbers.
use mathlib.Core.Path.{◌≡◌, refl, sym, ◌∙◌}
use mathlib.Core.List.{List, [], ◌∷◌}
use mathlib.Core.Option.{Option, none, some}
use mathlib.Core.Bool.{Bool, true}
use Prim.Native.Nat.{ℕ, ◌+◌, ◌*◌, ◌≤◌}
use native.Mathlib.Omega.{arith}
use Rattle.types.specs.Numbers.{Shard, Id}
use Rattle.types.specs.Places.{is_pooled, is_seated_on, observes}
use Rattle.types.specs.declared.Place.{Place}
use Rattle.types.specs.declared.Place.TheVariants.{Pooled, Seated, Observing, Short, Other}
use Rattle.types.specs.declared.ShardId.{ShardId}
use Rattle.types.specs.declared.Epoch.{Epoch}
use Rattle.rules.specs.Lists.{bit_of}
use Rattle.rules.specs.Table.{Table, at, update}
use Rattle.rules.specs.Board.{Rotation, Kind, split, merge, Reshape, Board}
use Rattle.rules.specs.Moves.{says, family_of, old_shards, new_shards}
use Rattle.rules.proofs.Counts.{Alike, same, apart, alike, hit, hit_apart, hit_sym, hit_most, occ}
use Rattle.rules.proofs.Tables.{tally, tally_update}
use Rattle.rules.proofs.SeatsLaws.{bit_yes, yes_bit, holds_bit}

-- ---- what a place says of a shard, as numbers

unfoldable pub seats_at : Shard → Place → ℕ
seats_at s Pooled = 0
seats_at s (Seated t r w) = hit s t.0
seats_at s (Observing t w) = 0
seats_at s Short = 0
seats_at s (Other m) = 0

unfoldable pub watches_at : Shard → Place → ℕ
watches_at s Pooled = 0
watches_at s (Seated t r w) = 0
watches_at s (Observing t w) = hit s t.0
watches_at s Short = 0
watches_at s (Other m) = 0

abbrev pub here_at : Shard → Place → ℕ
here_at s p = seats_at s p + watches_at s p

abbrev pub pooled_at : Place → ℕ
pooled_at p = bit_of (is_pooled p)

abbrev pub unit : {A : Type 0} → A → ℕ
unit a = 1

-- ---- what the board says, as numbers

-- what a machine's place says; no record says 0
abbrev pub told : (Place → ℕ) → Board → Id → ℕ
told g b x = tally g (at x b.machines)

-- how often an id stands in a shard's committee
abbrev pub in_c : Board → Shard → Id → ℕ
in_c b s x = tally (occ x) (at s b.committees)

unfoldable pub of_split : Kind → ℕ → ℕ
of_split split n = n
of_split merge n = 0

abbrev pub sitting : Id → Reshape → ℕ
sitting x r = of_split r.kind (tally unit (at x r.seats))

-- has a seat in a split at the shard
abbrev pub in_split : Board → Shard → Id → ℕ
in_split b s x = tally (sitting x) (at s b.reshapes)

abbrev pub sched_at : Reshape → ℕ
sched_at r = of_split r.kind (tally unit r.terminal)

-- a scheduled split stands at the shard
abbrev pub sched_n : Board → Shard → ℕ
sched_n b s = tally sched_at (at s b.reshapes)

abbrev pub half_at : Id → Reshape → ℕ
half_at x r = occ x r.left + occ x r.right

-- how often an id stands in the halves
abbrev pub in_halves : Board → Shard → Id → ℕ
in_halves b s x = tally (half_at x) (at s b.reshapes)

-- a number of each rotation, added up
unfoldable pub total : (Rotation → ℕ) → List Rotation → ℕ
total g [] = 0
total g (r ∷ l) = g r + total g l

abbrev pub party_of : Shard → Id → Rotation → ℕ
party_of s x r = hit s r.shard * (hit x r.victim + hit x r.entrant)

-- how often an id is a party of the shard's rotations
abbrev pub party : Shard → Id → List Rotation → ℕ
party s x l = total (party_of s x) l

abbrev pub comm_n : Board → Shard → ℕ
comm_n b s = tally unit (at s b.committees)

abbrev pub bound_n : Board → Shard → ℕ
bound_n b s = tally unit (at s b.bounds)

abbrev pub kind_of : Option Reshape → Option Kind
kind_of none = none
kind_of (some r) = some r.kind

-- the kind of the reshape at a shard
abbrev pub kind_at : Board → Shard → Option Kind
kind_at b s = kind_of (at s b.reshapes)

-- ---- the check

-- families apart, and the committees, gaps and boundaries that each reshape asks for
pub record Frame (kinds : Shard → Option Kind) (comms bounds : Shard → ℕ) : Type 0 where
  pub families : (t u c : Shard) (k j : Kind) → kinds t ≡ some k → kinds u ≡ some j → 1 ≤ occ c (family_of t) → 1 ≤ occ c (family_of u) → t ≡ u
  pub homes : (t c : Shard) (k : Kind) → kinds t ≡ some k → 1 ≤ occ c (old_shards k t) → comms c ≡ 1
  pub gaps : (t c : Shard) (k : Kind) → kinds t ≡ some k → 1 ≤ occ c (new_shards k t) → comms c ≡ 0
  pub edges : (t c : Shard) (k : Kind) → kinds t ≡ some k → 1 ≤ occ c (old_shards k t) → bounds c ≡ 1

pub record Seats (b : Board) : Type 0 where
  -- in the committee exactly if seated on the shard or observing it, and once
  pub members : (s : Shard) (x : Id) → in_c b s x ≡ told (here_at s) b x
  -- a seat in a split there exactly if observing the shard
  pub watchers : (s : Shard) (x : Id) → in_split b s x ≡ told (watches_at s) b x
  -- rotation parties are seated there, each a party once
  pub parties : (s : Shard) (x : Id) → party s x b.rotations ≤ told (seats_at s) b x
  -- a scheduled split has no rotations, and who is seated there is in one half, once
  pub calm : (s : Shard) (x : Id) → 1 ≤ sched_n b s → party s x b.rotations ≡ 0
  pub halved : (s : Shard) (x : Id) → 1 ≤ sched_n b s → 1 ≤ told (seats_at s) b x → in_halves b s x ≡ 1
  pub frame : Frame (kind_at b) (comm_n b) (bound_n b)

-- the same kinds and committees, and no fewer boundaries
pub Frame-same : {k k' : Shard → Option Kind} {c c' d d' : Shard → ℕ} → ((s : Shard) → k' s ≡ k s) → ((s : Shard) → c' s ≡ c s) → ((s : Shard) → d s ≡ 1 → d' s ≡ 1) → Frame k c d → Frame k' c' d'
Frame-same e f g h = record {
  families = λ t u c i j p q. h.families t u c i j (sym (e t) ∙ p) (sym (e u) ∙ q);
  homes = λ t c i p m. f c ∙ h.homes t c i (sym (e t) ∙ p) m;
  gaps = λ t c i p m. f c ∙ h.gaps t c i (sym (e t) ∙ p) m;
  edges = λ t c i p m. g c (h.edges t c i (sym (e t) ∙ p) m);
}

-- ---- laws of places

pub seats_most : (s : Shard) (o : Option Place) → tally (seats_at s) o ≤ 1
unfolding tally seats_at
seats_most s none = omega arith
seats_most s (some Pooled) = omega arith
seats_most s (some (Seated t r w)) = hit_most s t.0
seats_most s (some (Observing t w)) = omega arith
seats_most s (some Short) = omega arith
seats_most s (some (Other m)) = omega arith

-- who is seated on a shard, and who observes one
pub seat_of : (s : Shard) (o : Option Place) → 1 ≤ tally (seats_at s) o → (t : ShardId) × (r : Bool) × (w : Epoch) × (o ≡ some (Seated t r w)) × (t.0 ≡ s)
unfolding tally seats_at
seat_of s none h = absurd (omega arith)
seat_of s (some Pooled) h = absurd (omega arith)
seat_of s (some (Seated t r w)) h = go (alike s t.0)
  where
    go : Alike s t.0 → (u : ShardId) × (r' : Bool) × (v : Epoch) × (◌≡◌ {A = Option Place} (some (Seated t r w)) (some (Seated u r' v))) × (u.0 ≡ s)
    go (same p q) = (t, r, w, refl, sym p)
    go (apart p q) = absurd (omega (arith, hit_apart s t.0 p))
seat_of s (some (Observing t w)) h = absurd (omega arith)
seat_of s (some Short) h = absurd (omega arith)
seat_of s (some (Other m)) h = absurd (omega arith)

pub watch_of : (s : Shard) (o : Option Place) → 1 ≤ tally (watches_at s) o → (t : ShardId) × (w : Epoch) × (o ≡ some (Observing t w)) × (t.0 ≡ s)
unfolding tally watches_at
watch_of s none h = absurd (omega arith)
watch_of s (some Pooled) h = absurd (omega arith)
watch_of s (some (Seated t r w)) h = absurd (omega arith)
watch_of s (some (Observing t w)) h = go (alike s t.0)
  where
    go : Alike s t.0 → (u : ShardId) × (v : Epoch) × (◌≡◌ {A = Option Place} (some (Observing t w)) (some (Observing u v))) × (u.0 ≡ s)
    go (same p q) = (t, w, refl, sym p)
    go (apart p q) = absurd (omega (arith, hit_apart s t.0 p))
watch_of s (some Short) h = absurd (omega arith)
watch_of s (some (Other m)) h = absurd (omega arith)

pub pool_of_lem : (o : Option Place) → 1 ≤ tally pooled_at o → o ≡ some Pooled
unfolding tally
pool_of_lem none h = absurd (omega arith)
pool_of_lem (some Pooled) h = refl
pool_of_lem (some (Seated s r w)) h = absurd (omega arith)
pool_of_lem (some (Observing s w)) h = absurd (omega arith)
pool_of_lem (some Short) h = absurd (omega arith)
pool_of_lem (some (Other m)) h = absurd (omega arith)

pub here_sum : (s : Shard) (o : Option Place) → tally (here_at s) o ≡ tally (seats_at s) o + tally (watches_at s) o
unfolding tally
here_sum s none = refl
here_sum s (some p) = refl

-- a place is on one shard at the most
pub here_most : (s : Shard) (o : Option Place) → tally (here_at s) o ≤ 1
unfolding tally seats_at watches_at
here_most s none = omega arith
here_most s (some Pooled) = omega arith
here_most s (some (Seated t r w)) = omega (arith, hit_most s t.0)
here_most s (some (Observing t w)) = omega (arith, hit_most s t.0)
here_most s (some Short) = omega arith
here_most s (some (Other m)) = omega arith

-- ---- the tests and the numbers say the same

pub seats_bit : (s : Shard) (p : Place) → bit_of (is_seated_on s p) ≡ seats_at s p
unfolding seats_at hit
seats_bit s Pooled = refl
seats_bit s (Seated t r w) = hit_sym t.0 s
seats_bit s (Observing t w) = refl
seats_bit s Short = refl
seats_bit s (Other m) = refl

pub watches_bit : (s : Shard) (p : Place) → bit_of (observes s p) ≡ watches_at s p
unfolding watches_at hit
watches_bit s Pooled = refl
watches_bit s (Seated t r w) = refl
watches_bit s (Observing t w) = hit_sym t.0 s
watches_bit s Short = refl
watches_bit s (Other m) = refl

-- what a machine's place says, as a test and as a number
module _ (f : Place → Bool) (g : Place → ℕ) (e : (p : Place) → bit_of (f p) ≡ g p) (b : Board) (x : Id) where
  pub says_told : says f b x ≡ true → told g b x ≡ 1
  says_told h = sym (holds_bit f g e x b.machines) ∙ bit_yes _ h

  pub told_says : 1 ≤ told g b x → says f b x ≡ true
  told_says h = yes_bit (says f b x) (omega (arith, holds_bit f g e x b.machines))

-- a place on no shard
pub record Nowhere (p : Place) : Type 0 where
  pub seats : (s : Shard) → seats_at s p ≡ 0
  pub watches : (s : Shard) → watches_at s p ≡ 0

pub nowhere_short : Nowhere Short
unfolding seats_at watches_at
nowhere_short = record { seats = λ s. refl; watches = λ s. refl }

pub nowhere_pooled : Nowhere Pooled
unfolding seats_at watches_at
nowhere_pooled = record { seats = λ s. refl; watches = λ s. refl }

-- a machine's place changes: what is told of every machine
pub moved : (g : Place → ℕ) (x y : Id) (f : Place → Place) (q : Place) (m : Table Place) → at x m ≡ some q
    → tally g (at y (update x f m)) + hit y x * g q ≡ tally g (at y m) + hit y x * g (f q)
unfolding tally
moved g x y f q m e = rw e at (tally_update g y x f m)
