-- Families of reshapes, and the committees, gaps and boundaries that each asks for: as tests and as counts, when a reshape is admitted.
use mathlib.Core.Path.{◌≡◌, refl, ap, sym, ◌∙◌}
use mathlib.Core.Logic.{◌≢◌}
use mathlib.Core.List.{List, []}
use mathlib.Core.Option.{Option, none, some, some-injective, none-ne-some}
use mathlib.Core.Bool.{true, false, not}
use Prim.Native.Nat.{ℕ, ◌≤◌}
use native.Mathlib.Omega.{arith}
use lib.Dec.{eqb}
use Rattle.types.specs.Numbers.{Shard, Id}
use Rattle.types.specs.Shards.{left_of, right_of}
use Rattle.rules.specs.Lists.{◌and◌, has}
use Rattle.rules.specs.Table.{Table, at, stands, put, keys_of}
use Rattle.rules.specs.Board.{Kind, split, merge, Seat, Reshape, Board, on_reshapes}
use Rattle.rules.specs.Moves.{family_of, overlaps, old_shards, new_shards, committees_fit, bounds_stand}
use Rattle.rules.specs.Reshapes.{family_free, admission_faults, new_reshape, admit, admit_split, draw_keepers, admit_merge}
use Rattle.rules.proofs.Counts.{Alike, same, apart, alike, eqb_same, hit_same, hit_apart, occ}
use Rattle.rules.proofs.Tables.{From, at_put, tally, tally_put, occ_keys_where}
use Rattle.rules.proofs.Tests.{and_parts, and_joins, every_has, has_every, of_not, not_of, of_no}
use Rattle.rules.proofs.SeatsLaws.{zero_unless, bit_yes, bit_no, yes_bit, no_bit, stands_bit, out_of, of_out, none_in, in_none}
use Rattle.rules.proofs.SeatsFormed.{Formed}
use Rattle.rules.proofs.Seats.{unit, of_split, sitting, sched_at, half_at, comm_n, bound_n, kind_of, kind_at, Frame, Seats}
use Rattle.rules.proofs.SeatsMoves.{none_split, no_seats}
use Rattle.rules.proofs.Turns.{Finishes, checked_finishes, drawn_told, alone_keeps}

-- ---- the shards of a family

pub own_family : (t : Shard) → 1 ≤ occ t (family_of t)
unfolding occ
own_family t = omega (arith, hit_same t)

pub old_family : (k : Kind) (t c : Shard) → occ c (old_shards k t) ≤ occ c (family_of t)
unfolding occ
old_family split t c = omega arith
old_family merge t c = omega arith

pub new_family : (k : Kind) (t c : Shard) → occ c (new_shards k t) ≤ occ c (family_of t)
unfolding occ
new_family split t c = omega arith
new_family merge t c = omega arith

-- none is both old and new
pub old_new : (k : Kind) (t c : Shard) → 1 ≤ t → 1 ≤ occ c (old_shards k t) → occ c (new_shards k t) ≡ 0
unfolding occ
old_new k t c pos = go k (alike c t)
  where
    go : (k : Kind) → Alike c t → 1 ≤ occ c (old_shards k t) → occ c (new_shards k t) ≡ 0
    go split (same p v) h = rw p (omega (arith, hit_apart t (left_of t) (λ z. omega arith), hit_apart t (right_of t) (λ z. omega arith)))
    go split (apart p v) h = absurd (omega (arith, hit_apart c t p))
    go merge (same p v) h = absurd (omega (arith, rw p at h, hit_apart t (left_of t) (λ z. omega arith), hit_apart t (right_of t) (λ z. omega arith)))
    go merge (apart p v) h = omega (arith, hit_apart c t p)

-- families that do not overlap share no shard
pub no_overlap : (t u : Shard) → overlaps t u ≡ false → (c : Shard) → 1 ≤ occ c (family_of t) → 1 ≤ occ c (family_of u) → ⊥
unfolding overlaps
no_overlap t u h c m n = omega (arith, out_of c (family_of t) (none_in (λ s. has s (family_of t)) (family_of u) h c n))

pub overlap_no : (t u : Shard) → ((c : Shard) → 1 ≤ occ c (family_of t) → 1 ≤ occ c (family_of u) → ⊥) → overlaps t u ≡ false
unfolding overlaps
overlap_no t u h = in_none (λ s. has s (family_of t)) (family_of u) (λ c n. of_out c (family_of t) (zero_unless (occ c (family_of t)) (λ m. h c m n)))

-- ---- what a reshape asks for, as a test and as counts

pub fit_homes : (k : Kind) (t : Shard) (b : Board) → committees_fit k t b ≡ true → (c : Shard) → 1 ≤ occ c (old_shards k t) → comm_n b c ≡ 1
unfolding committees_fit
fit_homes k t b h c m = sym (stands_bit c b.committees) ∙ bit_yes _ (every_has (λ s. stands s b.committees) (old_shards k t) c (and_parts _ _ h).0 m)

pub fit_gaps : (k : Kind) (t : Shard) (b : Board) → committees_fit k t b ≡ true → (c : Shard) → 1 ≤ occ c (new_shards k t) → comm_n b c ≡ 0
unfolding committees_fit
fit_gaps k t b h c m =
    sym (stands_bit c b.committees) ∙ bit_no (stands c b.committees)
    (of_not (stands c b.committees) (every_has (λ s. not (stands s b.committees)) (new_shards k t) c (and_parts _ _ h).1 m))

pub fit_edges : (k : Kind) (t : Shard) (b : Board) → bounds_stand k t b ≡ true → (c : Shard) → 1 ≤ occ c (old_shards k t) → bound_n b c ≡ 1
unfolding bounds_stand
fit_edges k t b h c m = sym (stands_bit c b.bounds) ∙ bit_yes _ (every_has (λ s. stands s b.bounds) (old_shards k t) c h m)

pub committees_fit_lem : (k : Kind) (t : Shard) (b : Board) → ((c : Shard) → 1 ≤ occ c (old_shards k t) → comm_n b c ≡ 1) → ((c : Shard) → 1 ≤ occ c (new_shards k t) → comm_n b c ≡ 0) → committees_fit k t b ≡ true
unfolding committees_fit
committees_fit_lem k t b homes gaps =
    and_joins _ _ (has_every _ (old_shards k t) (λ c m. yes_bit _ (omega (arith, stands_bit c b.committees, homes c m))))
    (has_every _ (new_shards k t) (λ c m. not_of (stands c b.committees) (no_bit (stands c b.committees) (stands_bit c b.committees ∙ gaps c m))))

pub bounds_stand_lem : (k : Kind) (t : Shard) (b : Board) → ((c : Shard) → 1 ≤ occ c (old_shards k t) → bound_n b c ≡ 1) → bounds_stand k t b ≡ true
unfolding bounds_stand
bounds_stand_lem k t b edges = has_every _ (old_shards k t) (λ c m. yes_bit _ (omega (arith, stands_bit c b.bounds, edges c m)))

-- ---- a reshape is put

pub kind_known : (o : Option Reshape) (k : Kind) → kind_of o ≡ some k → tally unit o ≡ 1
unfolding tally
kind_known none k h = absurd (none-ne-some k h)
kind_known (some r) k h = refl

-- no other reshape names a shard of the family
Free : Shard → Board → Type 0
Free t b = (u c : Shard) (j : Kind) → kind_at b u ≡ some j → 1 ≤ occ c (family_of t) → 1 ≤ occ c (family_of u) → ⊥

free_of : (t : Shard) (b : Board) → From 0 b.reshapes → family_free t b ≡ true → Free t b
unfolding family_free keys_of Free
free_of t b r h u c j e m n =
    no_overlap t u (none_in (overlaps t) (keys_of b.reshapes) (of_not _ h) u (omega (arith, occ_keys_where (λ v. true) u 0 b.reshapes r, kind_known (at u b.reshapes) j e))) c m n

module _ (t : Shard) (r : Reshape) (b : Board) (free : Free t b) where
  put_own : (u : Shard) → u ≡ t → kind_at (on_reshapes (put t r) b) u ≡ some r.kind
  put_own u e = rw (e, at_put t t r b.reshapes, eqb_same)

  put_other : (u : Shard) → eqb u t ≡ false → kind_at (on_reshapes (put t r) b) u ≡ kind_at b u
  put_other u e = rw (at_put u t r b.reshapes, e)

  put_frame : ((c : Shard) → 1 ≤ occ c (old_shards r.kind t) → comm_n b c ≡ 1) → ((c : Shard) → 1 ≤ occ c (new_shards r.kind t) → comm_n b c ≡ 0)
      → ((c : Shard) → 1 ≤ occ c (old_shards r.kind t) → bound_n b c ≡ 1) → Frame (kind_at b) (comm_n b) (bound_n b) → Frame (kind_at (on_reshapes (put t r) b)) (comm_n b) (bound_n b)
  unfolding Free
  put_frame homes gaps edges h = record {
    families = λ u v c k j p q m n. families u v c k j p q m n (alike u t) (alike v t);
    homes = λ u c k p m. asks old_shards (λ d. comm_n b d ≡ 1) homes h.homes u c k p m (alike u t);
    gaps = λ u c k p m. asks new_shards (λ d. comm_n b d ≡ 0) gaps h.gaps u c k p m (alike u t);
    edges = λ u c k p m. asks old_shards (λ d. bound_n b d ≡ 1) edges h.edges u c k p m (alike u t);
  }
    where
      kinds : Shard → Option Kind
      kinds = kind_at (on_reshapes (put t r) b)

      families : (u v c : Shard) (k j : Kind) → kinds u ≡ some k → kinds v ≡ some j → 1 ≤ occ c (family_of u) → 1 ≤ occ c (family_of v) → Alike u t → Alike v t → u ≡ v
      families u v c k j p q m n (same e w) (same f z) = e ∙ sym f
      families u v c k j p q m n (same e w) (apart f z) = absurd (free v c j (sym (put_other v z) ∙ q) (rw e at m) n)
      families u v c k j p q m n (apart e w) (same f z) = absurd (free u c k (sym (put_other u w) ∙ p) (rw f at n) m)
      families u v c k j p q m n (apart e w) (apart f z) = h.families u v c k j (sym (put_other u w) ∙ p) (sym (put_other v z) ∙ q) m n

      -- what the new one asks for, and what the others do
      asks : (shards : Kind → Shard → List Shard) (Has : Shard → Type 0) → ((c : Shard) → 1 ≤ occ c (shards r.kind t) → Has c)
          → ((u c : Shard) (k : Kind) → kind_at b u ≡ some k → 1 ≤ occ c (shards k u) → Has c) → (u c : Shard) (k : Kind) → kinds u ≡ some k → 1 ≤ occ c (shards k u) → Alike u t → Has c
      asks shards Has new old u c k p m (same e w) =
          let f : k ≡ r.kind = sym (some-injective r.kind k (sym (put_own u e) ∙ p)) in
          new c (rw (e, f) at m)
      asks shards Has new old u c k p m (apart e w) = old u c k (sym (put_other u w) ∙ p) m

  -- a reshape that is not scheduled and has no cohort yet
  put_keeps : sched_at r ≡ 0 → ((x : Id) → sitting x r ≡ 0) → Frame (kind_at (on_reshapes (put t r) b)) (comm_n b) (bound_n b) → Seats b → Seats (on_reshapes (put t r) b)
  unfolding tally Free
  put_keeps ns nq frame h = record {
    members = h.members;
    watchers = λ s x. omega (arith, simp (nq x, nothing (sitting x)) at (tally_put (sitting x) s t r b.reshapes), h.watchers s x);
    parties = h.parties;
    calm = λ s x k. h.calm s x (omega (arith, sched s, k));
    halved = λ s x k n. omega (arith, simp (hit_apart s t (off s k)) at (tally_put (half_at x) s t r b.reshapes), h.halved s x (omega (arith, sched s, k)) n);
    frame = frame;
  }
    where
      vacant : (o : Option Reshape) → at t b.reshapes ≡ o → o ≡ none
      vacant none e = refl
      vacant (some q) e = absurd (free t t q.kind (rw e) (own_family t) (own_family t))

      nothing : (g : Reshape → ℕ) → tally g (at t b.reshapes) ≡ 0
      nothing g = ap (tally g) (vacant (at t b.reshapes) refl)

      sched : (s : Shard) → tally sched_at (at s (put t r b.reshapes)) ≡ tally sched_at (at s b.reshapes)
      sched s = omega (arith, simp (ns, nothing sched_at) at (tally_put sched_at s t r b.reshapes))

      off : (s : Shard) → 1 ≤ tally sched_at (at s (put t r b.reshapes)) → s ≢ t
      off s k p = let z : tally sched_at (at s b.reshapes) ≡ 0 = rw p (nothing sched_at) in omega (arith, sched s)

-- ---- ADMISSIONS

admit_ends : (k : Kind) (t : Shard) (handled : ℕ) (seats : Table Seat) (draws : List ℕ) (b : Board) → Formed b → (family_free t b and committees_fit k t b) ≡ true → bounds_stand k t b ≡ true
    → ((x : Id) → sitting x (new_reshape k seats b) ≡ 0) → Seats b → Finishes Seats (admit k t handled seats draws b)
unfolding admit tally
admit_ends k t handled seats draws b wf fits edges nq h = checked_finishes Seats _ _ (λ p.
    let r = new_reshape k seats b in
    let fit = and_parts _ _ fits in
    let free = free_of t b wf.targets fit.0 in
    put_keeps t r b free (none_split k) nq (put_frame t r b free (fit_homes k t b fit.1) (fit_gaps k t b fit.1) (fit_edges k t b edges) h.frame) h)

pub admit_split_kept : (t : Shard) (b : Board) → Formed b → Seats b → Seats (admit_split t b).board
unfolding admit_split admission_faults
admit_split_kept t b wf h =
    alone_keeps Seats [] b _ h (checked_finishes Seats _ _ (λ p. admit_ends split t 1 [] [] b wf (of_no _ p.1.1.0) (of_no _ p.1.1.1.0) (λ x. no_seats x split) h))

pub admit_merge_kept : (t : Shard) (draws : List ℕ) (b : Board) → Formed b → Seats b → Seats (admit_merge t draws b).board
unfolding admit_merge admission_faults of_split
admit_merge_kept t draws b wf h = alone_keeps Seats draws b _ h (checked_finishes Seats _ _ (λ p. drawn_told Seats (draw_keepers t b draws) _ (λ keepers left e.
    admit_ends merge t _ keepers left b wf (of_no _ p.1.1.0) (of_no _ p.1.1.1.0) (λ x. refl) h)))
