-- A merge's cut keeps the seat check: the children's members are pooled, its keepers land on the parent.
use mathlib.Core.Path.{◌≡◌, refl, sym, ◌∙◌}
use mathlib.Core.List.{List, [], ◌∷◌, ◌++◌, append-nil}
use mathlib.Core.Option.{Option, none, some}
use mathlib.Core.Bool.{Bool, true, false, cond, not}
use Prim.Native.Nat.{◌+◌, ◌≤◌}
use native.Mathlib.Omega.{arith}
use lib.Dec.{eqb}
use Rattle.types.specs.Numbers.{Shard, Id, Height}
use Rattle.types.specs.Shards.{left_of, right_of}
use Rattle.types.specs.Places.{shard_id, is_seated_on, pooled, kept_on}
use Rattle.types.specs.declared.ShardId.{ShardId}
use Rattle.types.specs.declared.Epoch.{Epoch}
use Rattle.types.specs.declared.Place.{Place}
use Rattle.types.specs.declared.Place.TheVariants.{Pooled, Seated, Observing, Short, Other}
use Rattle.rules.specs.Lists.{◌or◌}
use Rattle.rules.specs.Table.{at, stands, keys_of}
use Rattle.rules.specs.Board.{merge, Seat, Reshape, Board}
use Rattle.rules.specs.Moves.{members_of, place, put_on, for_all, children_of}
use Rattle.rules.specs.Cut.{recast, others, rejoin}
use Rattle.rules.proofs.Counts.{Alike, same, apart, alike, hit, hit_same, hit_apart, hit_most, occ, occ_append, occ_keep}
use Rattle.rules.proofs.Tables.{tally, known_most, occ_keys_where}
use Rattle.rules.proofs.SeatsLaws.{zero_unless, bit_yes, stands_bit, tally_le}
use Rattle.rules.proofs.SeatsFormed.{Sound}
use Rattle.rules.proofs.Seats.{watches_at, unit, told, sitting, Seats, nowhere_pooled, moved}
use Rattle.rules.proofs.SeatsMoves.{occ_members}
use Rattle.rules.proofs.SeatsFrame.{own_family, old_family, old_new}
use Rattle.rules.proofs.SeatsCutting.{stray_at, stray_cons, stray_nil, stray_of, Cutting, cut_done, cut_clear, pass, pass_none, land}
use Rattle.rules.proofs.SeatsRecast.{recast_machines, recast_cutting}

-- on the way through a merge's cut
abbrev Merging : Shard → Board → List Id → Board → Type 0
Merging t b rest d = Cutting (children_of t) (t ∷ []) b rest d

-- a place is on one child at the most
stray_most : (t : Shard) (p : Place) → stray_at (children_of t) p ≤ 1
unfolding stray_at occ
stray_most t p = go p
  where
    once : (u : Shard) → Alike u (left_of t) → hit u (left_of t) + (hit u (right_of t) + 0) ≤ 1
    once u (same e v) = omega (arith, hit_most u (left_of t), hit_apart u (right_of t) (λ q. omega arith))
    once u (apart e v) = omega (arith, hit_apart u (left_of t) e, hit_most u (right_of t))

    go : (p : Place) → stray_at (children_of t) p ≤ 1
    go Pooled = omega arith
    go (Seated u r w) = once u.0 (alike u.0 (left_of t))
    go (Observing u w) = once u.0 (alike u.0 (left_of t))
    go Short = omega arith
    go (Other m) = omega arith

module _ (t : Shard) (r : Reshape) (b : Board) (er : at t b.reshapes ≡ some r) (km : r.kind ≡ merge) (snd : Sound t r) (h : Seats b) where
  -- nobody watches a child: no reshape stands there
  unwatched : (u : Shard) (x : Id) → 1 ≤ occ u (children_of t) → told (watches_at u) b x ≡ 0
  unfolding tally occ
  unwatched u x m = sym (h.watchers u x) ∙ go (at u b.reshapes) refl
    where
      go : (o : Option Reshape) → at u b.reshapes ≡ o → tally (sitting x) o ≡ 0
      go none e = refl
      go (some q) e =
          let same-shard : t ≡ u = h.frame.families t u u merge q.kind (rw (er, km)) (rw e) (omega (arith, old_family merge t u)) (own_family u) in
          let one : hit u t ≡ 1 = rw same-shard (hit_same u) in
          absurd (omega (arith, old_new merge t u snd.pos m))

  -- members that are no keepers
  clear_all : (l rest : List Id) (d : Board) → ((x : Id) → occ x l ≤ told (stray_at (children_of t)) d x) → Merging t b (l ++ rest) d → Merging t b rest (for_all (λ x. place x pooled) l d)
  unfolding for_all occ tally stray_at place
  clear_all [] rest d low g = g
  clear_all (x ∷ l) rest d low g =
      let q = stray_of (children_of t) (at x d.machines) (omega (arith, low x, hit_same x)) in
      clear_all l rest (place x pooled d) (λ y. lower y q.0 q.1 q.2 (alike y x)) (cut_clear (children_of t) (t ∷ []) b x pooled q.0 (l ++ rest) d q.1 q.2 g refl nowhere_pooled)
    where
      lower : (y : Id) (p : Place) → at x d.machines ≡ some p → 1 ≤ stray_at (children_of t) p → Alike y x → occ y l ≤ told (stray_at (children_of t)) (place x pooled d) y
      lower y p e lost (same k v) = rw k (omega (arith, rw e at (low x), hit_same x, stray_most t p))
      lower y p e lost (apart k v) = omega (arith, simp (hit_apart y x k) at (moved (stray_at (children_of t)) x y pooled p d.machines e), low y)

  -- a keeper that is seated on a child
  rejoin_one : (x : Id) (rest : List Id) (d : Board) → 1 ≤ tally unit (at x r.seats) → Merging t b (x ∷ rest) d → Merging t b rest (rejoin t r.seats x d)
  unfolding rejoin tally stray_at watches_at occ ◌or◌
  rejoin_one x rest d n g = go (at x d.machines) refl
    where
      Out : Board → Type 0
      Out c = Merging t b rest c

      over : (p : Place) → at x d.machines ≡ some p → stray_at (children_of t) p ≡ 0 → Out d
      over p e z = pass (children_of t) (t ∷ []) b x rest d g p e z

      home : (u : ShardId) (s : Bool) (w : Epoch) (q : Seat) → at x d.machines ≡ some (Seated u s w) → 1 ≤ occ u.0 (children_of t) → Out (put_on t (kept_on t q.ready) x d)
      home u s w q e lost = land (children_of t) (t ∷ []) b x rest d g t (omega (arith, hit_same t)) (kept_on t q.ready) (Seated u s w) (shard_id t) q.ready w e lost refl refl

      seat : (u : ShardId) (s : Bool) (w : Epoch) (q : Seat) → at x d.machines ≡ some (Seated u s w) → Alike u.0 (left_of t) → Alike u.0 (right_of t)
          → Out (cond (eqb u.0 (left_of t) or eqb u.0 (right_of t)) (put_on t (kept_on t q.ready) x d) d)
      seat u s w q e (same k v) c = rw v (home u s w q e (rw k (omega (arith, hit_same (left_of t)))))
      seat u s w q e (apart k v) (same m z) = rw (v, z) (home u s w q e (rw m (omega (arith, hit_same (right_of t)))))
      seat u s w q e (apart k v) (apart m z) = rw (v, z) (over (Seated u s w) e (omega (arith, hit_apart u.0 (left_of t) k, hit_apart u.0 (right_of t) m)))

      blind : (u : ShardId) (w : Epoch) → at x d.machines ≡ some (Observing u w) → occ u.0 (children_of t) ≡ 0
      blind u w e = zero_unless (occ u.0 (children_of t)) (λ o. omega (arith, unwatched u.0 x o, rw (e, hit_same u.0) at (g.eyes u.0 x)))

      keeper : (p : Place) → at x d.machines ≡ some p → (q : Seat) → Out (cond (is_seated_on (left_of t) p or is_seated_on (right_of t) p) (put_on t (kept_on t q.ready) x d) d)
      keeper Pooled e q = over Pooled e refl
      keeper (Seated u s w) e q = seat u s w q e (alike u.0 (left_of t)) (alike u.0 (right_of t))
      keeper (Observing u w) e q = over (Observing u w) e (blind u w e)
      keeper Short e q = over Short e refl
      keeper (Other m) e q = over (Other m) e refl

      named : (p : Place) → at x d.machines ≡ some p → (o : Option Seat) → at x r.seats ≡ o
          → Out (elim o [ none ↦ d | some q ↦ cond (is_seated_on (left_of t) p or is_seated_on (right_of t) p) (put_on t (kept_on t q.ready) x d) d ])
      named p e none f = absurd (omega (arith, rw f at n))
      named p e (some q) f = keeper p e q

      go : (o : Option Place) → at x d.machines ≡ o → Out (elim o [
        | none ↦ d
        | some p ↦ elim (at x r.seats) [ none ↦ d | some q ↦ cond (is_seated_on (left_of t) p or is_seated_on (right_of t) p) (put_on t (kept_on t q.ready) x d) d ]
      ])
      go none e = pass_none (children_of t) (t ∷ []) b x rest d g e
      go (some p) e = named p e (at x r.seats) refl

  rejoin_all : (l rest : List Id) (d : Board) → ((x : Id) → occ x l ≤ tally unit (at x r.seats)) → Merging t b (l ++ rest) d → Merging t b rest (for_all (rejoin t r.seats) l d)
  unfolding for_all occ
  rejoin_all [] rest d m g = g
  rejoin_all (x ∷ l) rest d m g = rejoin_all l rest (rejoin t r.seats x d) (λ y. omega (arith, m y)) (rejoin_one x (l ++ rest) d (omega (arith, m x, hit_same x)) g)

  -- the members of the children are those on them
  members_all : (x : Id) → occ x (members_of (left_of t) b ++ members_of (right_of t) b) ≡ told (stray_at (children_of t)) b x
  members_all x =
      omega (
        arith,
        simp occ_members at (occ_append x (members_of (left_of t) b) (members_of (right_of t) b)),
        h.members (left_of t) x,
        h.members (right_of t) x,
        stray_cons (left_of t) (right_of t ∷ []) (at x b.machines),
        stray_cons (right_of t) [] (at x b.machines),
        stray_nil (at x b.machines),
      )

  others_occ : (x : Id) → (occ x (others t r.seats b) ≤ told (stray_at (children_of t)) b x) × (told (stray_at (children_of t)) b x ≤ occ x (others t r.seats b) + tally unit (at x r.seats))
  unfolding others
  others_occ x = rw (occ_keep (λ y. not (stands y r.seats)) x (members_of (left_of t) b ++ members_of (right_of t) b), members_all x) (go (stands x r.seats) refl)
    where
      go : (c : Bool) → stands x r.seats ≡ c → (cond (not c) (told (stray_at (children_of t)) b x) 0 ≤ told (stray_at (children_of t)) b x)
          × (told (stray_at (children_of t)) b x ≤ cond (not c) (told (stray_at (children_of t)) b x) 0 + tally unit (at x r.seats))
      go true e =
          (omega arith, omega (arith, tally_le (stray_at (children_of t)) unit (stray_most t) (at x b.machines), known_most (at x b.machines), stands_bit x r.seats, bit_yes (stands x r.seats) e))
      go false e = (omega arith, omega arith)

  pub cut_merge_keeps : (height : Height) → Seats (for_all (rejoin t r.seats) (keys_of r.seats) (for_all (λ x. place x pooled) (others t r.seats b) (recast merge t height b)))
  unfolding keys_of
  cut_merge_keeps height =
      let base = recast_cutting merge t height b r er km snd.pos h (others t r.seats b ++ (keys_of r.seats ++ [])) due in
      let first = clear_all (others t r.seats b) (keys_of r.seats ++ []) (recast merge t height b) (λ x. rw (recast_machines merge t height b) (others_occ x).0) base in
      cut_done (children_of t) (t ∷ []) b _ (rejoin_all (keys_of r.seats) [] _ (λ x. omega (arith, keepers x)) first)
    where
      keepers : (x : Id) → occ x (keys_of r.seats) ≡ tally unit (at x r.seats)
      keepers x = occ_keys_where (λ q. true) x 0 r.seats snd.rows

      due : (x : Id) → told (stray_at (children_of t)) b x ≤ occ x (others t r.seats b ++ (keys_of r.seats ++ []))
      due x = simp (occ_append, append-nil) (omega (arith, (others_occ x).1, keepers x))
