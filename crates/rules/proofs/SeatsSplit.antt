-- A split's cut keeps the seat check: who is seated on the target or watches it lands on a child.
use mathlib.Core.Path.{◌≡◌, refl, sym, ◌∙◌}
use mathlib.Core.Logic.{◌≢◌}
use mathlib.Core.List.{List, [], ◌∷◌, ◌++◌, append-nil}
use mathlib.Core.Option.{Option, none, some}
use mathlib.Core.Bool.{Bool, cond}
use Prim.Native.Nat.{◌+◌, ◌≤◌}
use native.Mathlib.Omega.{arith}
use lib.Dec.{eqb}
use Rattle.types.specs.Numbers.{Shard, Id}
use Rattle.types.specs.Shards.{left_of, right_of}
use Rattle.types.specs.Places.{shard_id, is_seated_on, is_observing, moved_to}
use Rattle.types.specs.declared.ShardId.{ShardId}
use Rattle.types.specs.declared.Epoch.{Epoch}
use Rattle.types.specs.declared.Place.{Place}
use Rattle.types.specs.declared.Place.TheVariants.{Pooled, Seated, Observing, Short, Other}
use Rattle.rules.specs.Lists.{bit_of}
use Rattle.rules.specs.Table.{at}
use Rattle.rules.specs.Board.{split, Seat, Reshape, Board, epoch_of}
use Rattle.rules.specs.Moves.{put_on, for_all, children_of, height_of}
use Rattle.rules.specs.Cut.{recast, settle, seated_by, cohort_for, settle_child}
use Rattle.rules.proofs.Counts.{Alike, same, apart, alike, hit_same, hit_apart, occ, occ_append}
use Rattle.rules.proofs.Tables.{tally, occ_keys_where}
use Rattle.rules.proofs.SeatsFormed.{Sound}
use Rattle.rules.proofs.Seats.{seats_at, watches_at, unit, told, of_split, sched_at, Seats, seats_most, watch_of, here_sum}
use Rattle.rules.proofs.SeatsCutting.{stray_at, stray_cons, stray_nil, Cutting, cut_done, pass, pass_none, land}
use Rattle.rules.proofs.SeatsRecast.{recast_cutting}

-- on the way through a split's cut
abbrev Splitting : Shard → Board → List Id → Board → Type 0
Splitting t b rest d = Cutting (t ∷ []) (children_of t) b rest d

module _ (t : Shard) (r : Reshape) (b : Board) (er : at t b.reshapes ≡ some r) (ks : r.kind ≡ split) (h : Seats b) where
  -- who watches has a seat, and who has a seat watches the target and no other shard
  has_seat_lem : (x : Id) → told (watches_at t) b x ≡ tally unit (at x r.seats)
  unfolding tally of_split
  has_seat_lem x = sym (h.watchers t x) ∙ rw (er, ks)

  one_eye : (u : Shard) (x : Id) → u ≢ t → 1 ≤ tally unit (at x r.seats) → told (watches_at u) b x ≡ 0
  unfolding tally watches_at
  one_eye u x n k = let q = watch_of t (at x b.machines) (omega (arith, has_seat_lem x)) in rw q.2 (hit_apart u _ (λ e. n (e ∙ q.3)))

  -- seated on the target, or watching it, one is settled; else passed over
  settle_one : (c : Shard) → 1 ≤ occ c (children_of t) → (x : Id) (rest : List Id) (d : Board) → Splitting t b (x ∷ rest) d → Splitting t b rest (settle t c r.seats x d)
  unfolding settle tally stray_at watches_at occ
  settle_one c k x rest d g = go (at x d.machines) refl
    where
      Out : Board → Type 0
      Out c = Splitting t b rest c

      over : (p : Place) → at x d.machines ≡ some p → stray_at (t ∷ []) p ≡ 0 → Out d
      over p e z = pass (t ∷ []) (children_of t) b x rest d g p e z

      idle : Out d → (o : Option Seat) → Out (elim o [ none ↦ d | some q ↦ d ])
      idle z none = z
      idle z (some q) = z

      seat : (u : ShardId) (s : Bool) (w : Epoch) → at x d.machines ≡ some (Seated u s w) → Alike u.0 t
          → Out (cond (eqb u.0 t) (put_on c (moved_to c) x d) (elim (at x r.seats) [ none ↦ d | some q ↦ d ]))
      seat u s w e (same p v) = rw v (land (t ∷ []) (children_of t) b x rest d g c k (moved_to c) (Seated u s w) (shard_id c) s w e (rw p (omega (arith, hit_same t))) refl refl)
      seat u s w e (apart p v) = rw v (idle (over (Seated u s w) e (omega (arith, hit_apart u.0 t p))) (at x r.seats))

      seen : (u : ShardId) (w : Epoch) → at x d.machines ≡ some (Observing u w) → told (watches_at u.0) d x ≡ 1
      seen u w e = rw e (hit_same u.0)

      look : (u : ShardId) (w : Epoch) → at x d.machines ≡ some (Observing u w) → (o : Option Seat) → at x r.seats ≡ o → Alike u.0 t
          → Out (elim o [ none ↦ d | some q ↦ put_on c (seated_by c q (epoch_of d)) x d ])
      look u w e none f (apart p v) = over (Observing u w) e (omega (arith, hit_apart u.0 t p))
      look u w e none f (same p v) = absurd (omega (arith, rw f at (has_seat_lem x), g.eyes t x, rw p at (seen u w e)))
      look u w e (some q) f (same p v) =
          land (t ∷ []) (children_of t) b x rest d g c k (seated_by c q (epoch_of d)) (Observing u w) (shard_id c) q.ready _ e
          (rw p (omega (arith, hit_same t))) refl refl
      look u w e (some q) f (apart p v) = absurd (omega (arith, one_eye u.0 x p (rw f (omega arith)), g.eyes u.0 x, seen u w e))

      go : (o : Option Place) → at x d.machines ≡ o → Out (elim o [
        | none ↦ d
        | some p ↦
            cond (is_seated_on t p) (put_on c (moved_to c) x d)
            (elim (at x r.seats) [ none ↦ d | some q ↦ cond (is_observing p) (put_on c (seated_by c q (epoch_of d)) x d) d ])
      ])
      go none e = pass_none (t ∷ []) (children_of t) b x rest d g e
      go (some Pooled) e = idle (over Pooled e refl) (at x r.seats)
      go (some (Seated u s w)) e = seat u s w e (alike u.0 t)
      go (some (Observing u w)) e = look u w e (at x r.seats) refl (alike u.0 t)
      go (some Short) e = idle (over Short e refl) (at x r.seats)
      go (some (Other m)) e = idle (over (Other m) e refl) (at x r.seats)

  settle_all : (c : Shard) → 1 ≤ occ c (children_of t) → (l rest : List Id) (d : Board) → Splitting t b (l ++ rest) d → Splitting t b rest (for_all (settle t c r.seats) l d)
  unfolding for_all
  settle_all c k [] rest d g = g
  settle_all c k (x ∷ l) rest d g = settle_all c k l rest (settle t c r.seats x d) (settle_one c k x (l ++ rest) d g)

  module _ (snd : Sound t r) (sc : sched_at r ≡ 1) where
    -- the cohort of both children is all that has a seat
    cohort_all : (x : Id) → tally unit (at x r.seats) ≤ occ x (cohort_for (left_of t) r.seats) + occ x (cohort_for (right_of t) r.seats)
    unfolding cohort_for tally
    cohort_all x =
        omega (
          arith,
          occ_keys_where (λ q. eqb q.child (left_of t)) x 0 r.seats snd.rows,
          occ_keys_where (λ q. eqb q.child (right_of t)) x 0 r.seats snd.rows,
          side (at x r.seats) refl,
        )
      where
        side : (o : Option Seat) → at x r.seats ≡ o → tally unit o ≤ tally (λ q. bit_of (eqb q.child (left_of t))) o + tally (λ q. bit_of (eqb q.child (right_of t))) o
        side none e = omega arith
        side (some q) e = snd.kids x q e

    halves_all : (x : Id) → Alike (told (seats_at t) b x) 0 → told (seats_at t) b x ≤ occ x r.left + occ x r.right
    unfolding tally
    halves_all x (same p v) = omega arith
    halves_all x (apart p v) = omega (arith, seats_most t (at x b.machines), rw er at (h.halved t x (rw er (omega arith)) (omega arith)))

    abbrev lefts : List Id
    lefts = r.left ++ cohort_for (left_of t) r.seats

    abbrev rights : List Id
    rights = r.right ++ cohort_for (right_of t) r.seats

    pub cut_split_keeps : Seats (settle_child t (right_of t) r.right r.seats (settle_child t (left_of t) r.left r.seats (recast split t (height_of t b) b)))
    unfolding settle_child occ
    cut_split_keeps =
        let first =
        settle_all (left_of t) (omega (arith, hit_same (left_of t))) lefts (rights ++ []) _
        (recast_cutting split t (height_of t b) b r er ks snd.pos h (lefts ++ (rights ++ [])) due) in
        cut_done (t ∷ []) (children_of t) b _ (settle_all (right_of t) (omega (arith, hit_same (right_of t))) rights [] _ first)
      where
        due : (x : Id) → told (stray_at (t ∷ [])) b x ≤ occ x (lefts ++ (rights ++ []))
        due x =
            simp (occ_append, append-nil) (omega (arith, stray_cons t [] (at x b.machines), stray_nil (at x b.machines), here_sum t (at x b.machines), has_seat_lem x, cohort_all x, halves_all x (alike (told (seats_at t) b x) 0)))
