-- What the moves of a turn keep, the steps over several shards keep.
use mathlib.Core.List.{List, [], ◌∷◌, ◌++◌}
use mathlib.Core.Option.{Option, none, some}
use mathlib.Core.Bool.{cond, not}
use Prim.Native.Nat.{ℕ, ◌≤◌}
use Rattle.types.specs.Numbers.{Shard, Id, Epoch, Height}
use Rattle.types.specs.Shards.{left_of, right_of}
use Rattle.types.specs.Places.{is_seated_on, is_observing, pooled, moved_to, kept_on}
use Rattle.types.specs.declared.Place.{Place}
use Rattle.types.specs.declared.Answer.TheVariants.{NoBoundary}
use Rattle.rules.specs.Lists.{◌or◌}
use Rattle.rules.specs.Table.{Table, at, update, keys_of}
use Rattle.rules.specs.Board.{split, merge, Seat, Reshape, Board, on_reshapes, epoch_of}
use Rattle.rules.specs.Draws.{Drawn}
use Rattle.rules.specs.Moves.{place, put_on, abort_rotations, with_drain_by, bounds_stand}
use Rattle.rules.specs.Turns.{Turn, finished, ◌gives◌, checked, drawn}
use Rattle.rules.specs.Schedule.{is_quiet, scheduled, drain_end, drain_or_schedule, split_gate, pass_gate, halve, schedule_split, schedule_splits, merge_gate, schedule_merge, schedule_merges}
use Rattle.rules.specs.Cut.{due, recast, settle, seated_by, cohort_for, settle_child, cut_split_of, cut_split, cut_splits, others, rejoin, cut_merge_of, cut_merge, cut_merges}
use Rattle.rules.proofs.Turns.{for_all_keeps, Finishes, checked_finishes, drawn_told, reshape_finishes, batch_keeps}
use Rattle.rules.proofs.Tests.{by_cases}
use Rattle.rules.proofs.Counts.{occ}

-- a turn after draws, whatever is drawn
pub any_drawn_finishes : {A : Type 0} (P : Board → Type 0) (d : Drawn A) (turn : A → List ℕ → Turn) → ((a : A) (left : List ℕ) → Finishes P (turn a left)) → Finishes P (drawn d turn)
any_drawn_finishes P d turn h = drawn_told P d turn (λ a left e. h a left)

-- a property that both changes of a reshape keep is one of the turn's board
module _ (P : Board → Type 0) (t : Shard) (r : Reshape) (left right : List Id) (draws : List ℕ) (b : Board) where
  pub drain_finishes : P b → P (on_reshapes (update t (with_drain_by (drain_end b))) b) → P (scheduled t r left right b) → Finishes P (drain_or_schedule t r left right draws b)
  unfolding drain_or_schedule
  drain_finishes p d s = go r.drain_by
    where
      go : (o : Option Epoch) → Finishes P (elim o [
        | none ↦ finished 0 draws (on_reshapes (update t (with_drain_by (drain_end b))) b)
        | some e ↦ cond (is_quiet r) (checked (not (bounds_stand r.kind t b) gives NoBoundary ∷ []) (finished 1 draws (scheduled t r left right b))) (finished 0 draws b)
      ])
      go none = d
      go (some e) = by_cases (Finishes P) (is_quiet r) _ _ (λ q. checked_finishes P _ _ (λ c. s)) (λ q. p)

-- ---- SCHEDULE: rotations aborted, a time to drain by, a terminal

module _ (P : Board → Type 0)
    (aborts : (t : Shard) (b : Board) → P b → P (abort_rotations t b))
    (drains : (t : Shard) (e : Epoch) (b : Board) → P b → P (on_reshapes (update t (with_drain_by e)) b))
    (sets : (t : Shard) (r : Reshape) (left right : List Id) (b : Board) → P b → P (scheduled t r left right b)) where
  drains_finish : (t : Shard) (r : Reshape) (left right : List Id) (draws : List ℕ) (b : Board) → P b → Finishes P (drain_or_schedule t r left right draws b)
  drains_finish t r left right draws b p = drain_finishes P t r left right draws b p (drains t _ b p) (sets t r left right b p)

  gate_finishes : (t : Shard) (left right : List Id) (draws : List ℕ) (b : Board) → P b → Finishes P (pass_gate t left right draws b)
  unfolding pass_gate
  gate_finishes t left right draws b p = reshape_finishes P t _ draws b p (λ r e. by_cases (Finishes P) (split_gate t left right r b) _ _ (λ g. drains_finish t r left right draws b p) (λ g. p))

  pub schedule_splits_keeps : (draws : List ℕ) (b : Board) → P b → P (schedule_splits draws b).board
  unfolding schedule_splits schedule_split halve
  schedule_splits_keeps draws b = batch_keeps P schedule_split _ draws b (λ w t o ds c p. any_drawn_finishes P _ _ (λ ids left. gate_finishes t _ _ left _ (aborts t c p)))

  pub schedule_merges_keeps : (b : Board) → P b → P (schedule_merges b).board
  unfolding schedule_merges schedule_merge
  schedule_merges_keeps b =
      batch_keeps P schedule_merge _ [] b (λ w t o ds c p.
      reshape_finishes P t _ ds c p (λ r e. by_cases (Finishes P) (merge_gate r c) _ _ (λ g. drains_finish t r [] [] ds c p) (λ g. p)))

-- ---- CUT SPLITS: the target's tables recast, members moved, watchers seated

module _ (P : Board → Type 0)
    (moves : (c : Shard) (x : Id) (b : Board) → P b → P (put_on c (moved_to c) x b))
    (sits : (c : Shard) (q : Seat) (x : Id) (b : Board) → P b → P (put_on c (seated_by c q (epoch_of b)) x b)) where
  settle_keeps : (t c : Shard) (seats : Table Seat) (x : Id) (b : Board) → P b → P (settle t c seats x b)
  unfolding settle
  settle_keeps t c seats x b p = go (at x b.machines)
    where
      look : (u : Place) (o : Option Seat) → P (elim o [ none ↦ b | some q ↦ cond (is_observing u) (put_on c (seated_by c q (epoch_of b)) x b) b ])
      look u none = p
      look u (some q) = by_cases P (is_observing u) _ _ (λ e. sits c q x b p) (λ e. p)

      go : (o : Option Place) → P (elim o [
        | none ↦ b
        | some u ↦
            cond (is_seated_on t u) (put_on c (moved_to c) x b)
            (elim (at x seats) [ none ↦ b | some q ↦ cond (is_observing u) (put_on c (seated_by c q (epoch_of b)) x b) b ])
      ])
      go none = p
      go (some u) = by_cases P (is_seated_on t u) _ _ (λ e. moves c x b p) (λ e. look u (at x seats))

  child_keeps : (t c : Shard) (half : List Id) (seats : Table Seat) (b : Board) → P b → P (settle_child t c half seats b)
  unfolding settle_child
  child_keeps t c half seats = for_all_keeps P (settle t c seats) (settle_keeps t c seats) (half ++ cohort_for c seats)

  pub cut_splits_keeps : (b : Board) → ((t : Shard) → 1 ≤ occ t (due split b) → (h : Height) (c : Board) → P c → P (recast split t h c)) → P b → P (cut_splits b).board
  unfolding cut_splits cut_split cut_split_of
  cut_splits_keeps b recasts =
      batch_keeps P cut_split _ [] b (λ w t o ds c p.
      reshape_finishes P t _ ds c p (λ r e.
      checked_finishes P _ _ (λ q. child_keeps t (right_of t) r.right r.seats _ (child_keeps t (left_of t) r.left r.seats _ (recasts t o _ c p)))))

-- ---- CUT MERGES: the children's tables recast, members pooled, keepers moved

module _ (P : Board → Type 0)
    (pools : (x : Id) (b : Board) → P b → P (place x pooled b))
    (moves : (t : Shard) (q : Seat) (x : Id) (b : Board) → P b → P (put_on t (kept_on t q.ready) x b)) where
  rejoin_keeps : (t : Shard) (keepers : Table Seat) (x : Id) (b : Board) → P b → P (rejoin t keepers x b)
  unfolding rejoin
  rejoin_keeps t keepers x b p = go (at x b.machines)
    where
      look : (u : Place) (o : Option Seat) → P (elim o [ none ↦ b | some q ↦ cond (is_seated_on (left_of t) u or is_seated_on (right_of t) u) (put_on t (kept_on t q.ready) x b) b ])
      look u none = p
      look u (some q) = by_cases P (is_seated_on (left_of t) u or is_seated_on (right_of t) u) _ _ (λ e. moves t q x b p) (λ e. p)

      go : (o : Option Place) → P (elim o [
        | none ↦ b
        | some u ↦
            elim (at x keepers) [ none ↦ b | some q ↦ cond (is_seated_on (left_of t) u or is_seated_on (right_of t) u) (put_on t (kept_on t q.ready) x b) b ]
      ])
      go none = p
      go (some u) = look u (at x keepers)

  pub cut_merges_keeps : (b : Board) → ((t : Shard) → 1 ≤ occ t (due merge b) → (h : Height) (c : Board) → P c → P (recast merge t h c)) → P b → P (cut_merges b).board
  unfolding cut_merges cut_merge cut_merge_of
  cut_merges_keeps b recasts =
      batch_keeps P cut_merge _ [] b (λ w t o ds c p.
      reshape_finishes P t _ ds c p (λ r e.
      checked_finishes P _ _ (λ q.
      for_all_keeps P (rejoin t r.seats) (rejoin_keeps t r.seats) (keys_of r.seats) _
      (for_all_keeps P (λ x. place x pooled) pools (others t r.seats c) _ (recasts t o _ c p)))))
