-- The tables of a family at its cut: the record, the committees and the rotations of the old shards are gone, the new shards stand empty.
use mathlib.Core.Path.{◌≡◌, refl, ap, sym, ◌∙◌}
use mathlib.Core.Logic.{◌≢◌}
use mathlib.Core.List.{List, [], ◌∷◌}
use mathlib.Core.Option.{Option, none, some, none-ne-some}
use mathlib.Core.Bool.{cond}
use Prim.Native.Nat.{ℕ, ◌+◌, ◌*◌, ◌≤◌}
use native.Mathlib.Omega.{arith}
use lib.Dec.{eqb}
use Rattle.types.specs.Numbers.{Shard, Id, Height}
use Rattle.types.specs.declared.Place.{Place}
use Rattle.rules.specs.Table.{at, put, remove}
use Rattle.rules.specs.Board.{Kind, split, merge, Reshape, Board, on_reshapes, epoch_of}
use Rattle.rules.specs.Moves.{for_all, family_of, old_shards, new_shards, new_boundary}
use Rattle.rules.specs.Cut.{end_shard, begin_shard, recast}
use Rattle.rules.proofs.Counts.{Alike, same, apart, alike, eqb_same, eqb_apart, hit, hit_same, hit_apart, occ}
use Rattle.rules.proofs.Tables.{cond_const, at_put, at_remove, tally, tally_remove, known_most, known_more}
use Rattle.rules.proofs.SeatsLaws.{zero_unless, none_told}
use Rattle.rules.proofs.Seats.{seats_at, watches_at, here_at, unit, told, in_c, of_split, sitting, in_split, sched_at, sched_n, half_at, in_halves, party, comm_n, bound_n, kind_of, kind_at, Frame, Seats}
use Rattle.rules.proofs.SeatsRotations.{party_gone, party_stays, party_fewer}
use Rattle.rules.proofs.SeatsFrame.{own_family, old_family, new_family, old_new}
use Rattle.rules.proofs.SeatsCutting.{stray_at, Cutting}
use Rattle.rules.proofs.Turns.{for_all_keeps}

-- what is seen of one shard, when each shard of a list is changed: the shard itself sees it, and no other
module _ {A : Type 0} (see : Board → A) (move : Shard → Board → Board) (u : Shard) where
  seen : (new : A) → ((b : Board) → see (move u b) ≡ new) → ((s : Shard) (b : Board) → see b ≡ new → see (move s b) ≡ new) → (l : List Shard) (b : Board) → 1 ≤ occ u l → see (for_all move l b) ≡ new
  unfolding for_all occ
  seen new own kept [] b h = absurd (omega arith)
  seen new own kept (s ∷ l) b h = go (alike u s) (seen new own kept l (move s b))
    where
      go : Alike u s → (1 ≤ occ u l → see (for_all move l (move s b)) ≡ new) → see (for_all move l (move s b)) ≡ new
      go (same p v) ih = for_all_keeps (λ c. see c ≡ new) move kept l (move s b) (rw (← p) (own b))
      go (apart p v) ih = ih (omega (arith, hit_apart u s p))

  unseen : ((s : Shard) (b : Board) → u ≢ s → see (move s b) ≡ see b) → (l : List Shard) (b : Board) → occ u l ≡ 0 → see (for_all move l b) ≡ see b
  unfolding for_all occ
  unseen other [] b h = refl
  unseen other (s ∷ l) b h = unseen other l (move s b) (omega arith) ∙ other s b (λ p. omega (arith, hit_same s, rw p at h))

-- what is counted of splits alone is 0 at a target that is no old shard
old_sits : (k : Kind) (t : Shard) (n : ℕ) → occ t (old_shards k t) ≡ 0 → of_split k n ≡ 0
unfolding occ of_split
old_sits split t n h = absurd (omega (arith, hit_same t))
old_sits merge t n h = refl

-- before the new shards begin
abbrev ended : Kind → Shard → Board → Board
ended k t b = for_all end_shard (old_shards k t) (on_reshapes (remove t) b)

module _ (k : Kind) (t : Shard) (height : Height) (b : Board) where
  pub recast_machines : (recast k t height b).machines ≡ b.machines
  unfolding recast
  recast_machines =
      for_all_keeps (λ c. c.machines ≡ b.machines) (begin_shard height) (λ s c e. e) (new_shards k t) _
      (for_all_keeps (λ c. c.machines ≡ b.machines) end_shard (λ s c e. e) (old_shards k t) _ refl)

  pub recast_reshapes : (recast k t height b).reshapes ≡ remove t b.reshapes
  unfolding recast
  recast_reshapes =
      for_all_keeps (λ c. c.reshapes ≡ remove t b.reshapes) (begin_shard height) (λ s c e. e) (new_shards k t) _
      (for_all_keeps (λ c. c.reshapes ≡ remove t b.reshapes) end_shard (λ s c e. e) (old_shards k t) _ refl)

  recast_rotations : (recast k t height b).rotations ≡ (ended k t b).rotations
  unfolding recast
  recast_rotations = for_all_keeps (λ c. c.rotations ≡ (ended k t b).rotations) (begin_shard height) (λ s c e. e) (new_shards k t) _ refl

  -- the old shards' rotations
  party_old : (u : Shard) (x : Id) → 1 ≤ occ u (old_shards k t) → party u x (recast k t height b).rotations ≡ 0
  party_old u x m =
      rw recast_rotations (seen (λ c. party u x c.rotations) end_shard u 0 (λ c. party_gone u x c.rotations) (λ s c e. omega (arith, party_fewer s u x c.rotations)) (old_shards k t) _ m)

  party_other : (u : Shard) (x : Id) → occ u (old_shards k t) ≡ 0 → party u x (recast k t height b).rotations ≡ party u x b.rotations
  party_other u x n = rw recast_rotations (unseen (λ c. party u x c.rotations) end_shard u (λ s c p. party_stays s u x c.rotations p) (old_shards k t) _ n)

  -- the committees
  comm_new : (u : Shard) → 1 ≤ occ u (new_shards k t) → at u (recast k t height b).committees ≡ some []
  unfolding recast
  comm_new u m =
      seen (λ c. at u c.committees) (begin_shard height) u (some []) (λ c. rw (at_put u u [] c.committees, eqb_same))
      (λ s c e. rw (at_put u s [] c.committees, e) (cond_const (eqb u s) _)) (new_shards k t) (ended k t b) m

  comm_ended : (u : Shard) → occ u (new_shards k t) ≡ 0 → at u (recast k t height b).committees ≡ at u (ended k t b).committees
  unfolding recast
  comm_ended u n = unseen (λ c. at u c.committees) (begin_shard height) u (λ s c p. rw (at_put u s [] c.committees, eqb_apart u s p)) (new_shards k t) (ended k t b) n

  comm_old : (u : Shard) → 1 ≤ t → 1 ≤ occ u (old_shards k t) → at u (recast k t height b).committees ≡ none
  comm_old u pos m =
      comm_ended u (old_new k t u pos m) ∙ seen (λ c. at u c.committees) end_shard u none (λ c. rw (at_remove u u c.committees, eqb_same))
      (λ s c e. rw (at_remove u s c.committees, e) (cond_const (eqb u s) _)) (old_shards k t) _ m

  comm_other : (u : Shard) → occ u (old_shards k t) ≡ 0 → occ u (new_shards k t) ≡ 0 → at u (recast k t height b).committees ≡ at u b.committees
  comm_other u n m = comm_ended u m ∙ unseen (λ c. at u c.committees) end_shard u (λ s c p. rw (at_remove u s c.committees, eqb_apart u s p)) (old_shards k t) _ n

  -- the boundaries
  bound_stays : (u : Shard) → bound_n b u ≡ 1 → bound_n (recast k t height b) u ≡ 1
  unfolding recast
  bound_stays u h =
      for_all_keeps (λ c. bound_n c u ≡ 1) (begin_shard height)
      (λ s c e. omega (arith, e, known_more u s (new_boundary height (epoch_of c)) c.bounds, known_most (at u (put s (new_boundary height (epoch_of c)) c.bounds))))
      (new_shards k t) _
      (for_all_keeps (λ c. bound_n c u ≡ 1) end_shard (λ s c e. e) (old_shards k t) _ h)

  -- ---- the check, but for those still on the old shards

  module _ (r : Reshape) (er : at t b.reshapes ≡ some r) (kr : r.kind ≡ k) (pos : 1 ≤ t) (h : Seats b) where
    own_kind : kind_at b t ≡ some k
    own_kind = rw (er, kr)

    -- what is told of a place, a reshape, a committee
    told_same : (g : Place → ℕ) (x : Id) → told g (recast k t height b) x ≡ told g b x
    told_same g x = rw recast_machines

    reshape_less : (g : Reshape → ℕ) (u : Shard) → tally g (at u (recast k t height b).reshapes) + hit u t * g r ≡ tally g (at u b.reshapes)
    unfolding tally
    reshape_less g u = rw recast_reshapes (rw er at (tally_remove g u t b.reshapes))

    kind_left : (u : Shard) (j : Kind) → kind_at (recast k t height b) u ≡ some j → (kind_at b u ≡ some j) × (u ≢ t)
    kind_left u j p = go (alike u t) (rw (recast_reshapes, at_remove u t b.reshapes) at p)
      where
        go : Alike u t → kind_of (cond (eqb u t) none (at u b.reshapes)) ≡ some j → (kind_at b u ≡ some j) × (u ≢ t)
        go (same e v) q = absurd (none-ne-some j (rw v at q))
        go (apart e v) q = (rw v at q, e)

    -- no other reshape names a shard of the family
    out : (u c : Shard) (j : Kind) → kind_at b u ≡ some j → u ≢ t → 1 ≤ occ c (family_of u) → occ c (family_of t) ≡ 0
    out u c j p n m = zero_unless (occ c (family_of t)) (λ q. n (h.frame.families u t c j k p own_kind m q))

    -- nothing stands at a shard of the family
    vacant : (u : Shard) → 1 ≤ occ u (family_of t) → at u (recast k t height b).reshapes ≡ none
    vacant u m = go (at u (recast k t height b).reshapes) refl
      where
        go : (o : Option Reshape) → at u (recast k t height b).reshapes ≡ o → o ≡ none
        go none e = refl
        go (some q) e = let p = kind_left u q.kind (rw e) in absurd (omega (arith, out u u q.kind p.0 p.1 (own_family u)))

    comm_same : (u : Shard) → occ u (family_of t) ≡ 0 → at u (recast k t height b).committees ≡ at u b.committees
    comm_same u n = comm_other u (omega (arith, old_family k t u)) (omega (arith, new_family k t u))

    recast_frame : Frame (kind_at (recast k t height b)) (comm_n (recast k t height b)) (bound_n (recast k t height b))
    recast_frame = record {
      families = λ u v c i j p q m n. h.frame.families u v c i j (kind_left u i p).0 (kind_left v j q).0 m n;
      homes = λ u c j p m. let q = kind_left u j p in ap (tally unit) (comm_same c (out u c j q.0 q.1 (omega (arith, old_family j u c)))) ∙ h.frame.homes u c j q.0 m;
      gaps = λ u c j p m. let q = kind_left u j p in ap (tally unit) (comm_same c (out u c j q.0 q.1 (omega (arith, new_family j u c)))) ∙ h.frame.gaps u c j q.0 m;
      edges = λ u c j p m. bound_stays c (h.frame.edges u c j (kind_left u j p).0 m);
    }

    pub recast_cutting : (rest : List Id) → ((x : Id) → told (stray_at (old_shards k t)) b x ≤ occ x rest) → Cutting (old_shards k t) (new_shards k t) b rest (recast k t height b)
    unfolding tally occ
    recast_cutting rest due = record {
      members = λ u x n. members u x n (alike (occ u (new_shards k t)) 0) ∙ h.members u x ∙ sym (told_same (here_at u) x);
      watchers = λ u x n. watchers u x n (alike u t) ∙ h.watchers u x ∙ sym (told_same (watches_at u) x);
      parties = λ u x n. rw (party_other u x n, told_same (seats_at u) x) (h.parties u x);
      calm = λ u x s. calm u x s (alike (occ u (old_shards k t)) 0);
      halved = λ u x s n. halved u x s (rw (told_same (seats_at u) x) at n) (alike u t);
      frame = recast_frame;
      empty = λ u x m. let v = vacant u (omega (arith, old_family k t u)) in (ap (tally (occ x)) (comm_old u pos m), ap (tally (sitting x)) v, party_old u x m, ap (tally sched_at) v);
      fresh = λ c m. (ap (tally unit) (comm_new c m), ap (tally sched_at) (vacant c (omega (arith, new_family k t c))), zero_unless (occ c (old_shards k t)) (λ o. omega (arith, old_new k t c pos o, m)));
      eyes = λ u x. omega (arith, told_same (watches_at u) x);
      pending = λ x. rw (told_same (stray_at (old_shards k t)) x) (due x);
    }
      where
        members : (u : Shard) (x : Id) → occ u (old_shards k t) ≡ 0 → Alike (occ u (new_shards k t)) 0 → in_c (recast k t height b) u x ≡ in_c b u x
        members u x n (same p v) = ap (tally (occ x)) (comm_other u n p)
        members u x n (apart p v) = ap (tally (occ x)) (comm_new u (omega arith)) ∙ sym (none_told (occ x) (at u b.committees) (h.frame.gaps t u k own_kind (omega arith)))

        watchers : (u : Shard) (x : Id) → occ u (old_shards k t) ≡ 0 → Alike u t → in_split (recast k t height b) u x ≡ in_split b u x
        watchers u x n (same p v) = omega (arith, simp (kr, old_sits k t (tally unit (at x r.seats)) (rw p at n)) at (reshape_less (sitting x) u))
        watchers u x n (apart p v) = omega (arith, simp (hit_apart u t p) at (reshape_less (sitting x) u))

        sched_less : (u : Shard) → sched_n (recast k t height b) u ≤ sched_n b u
        sched_less u = omega (arith, reshape_less sched_at u)

        halved : (u : Shard) (x : Id) → 1 ≤ sched_n (recast k t height b) u → 1 ≤ told (seats_at u) b x → Alike u t → in_halves (recast k t height b) u x ≡ 1
        halved u x s n (same p v) = absurd (omega (arith, s, ap (tally sched_at) (vacant u (rw p (own_family t)))))
        halved u x s n (apart p v) = omega (arith, simp (hit_apart u t p) at (reshape_less (half_at x) u), h.halved u x (omega (arith, sched_less u)) n)

        calm : (u : Shard) (x : Id) → 1 ≤ sched_n (recast k t height b) u → Alike (occ u (old_shards k t)) 0 → party u x (recast k t height b).rotations ≡ 0
        calm u x s (same p v) = party_other u x p ∙ h.calm u x (omega (arith, sched_less u))
        calm u x s (apart p v) = party_old u x (omega arith)
