-- The steps that set a terminal: schedule splits, schedule merges.
use Rattle.std.specs.Prelude.{ℕ, ◌+◌, List, [], ◌∷◌, Bool, cond, not, eqb, leb, length, take, drop}
use Rattle.std.proofs.Math.Option.{none, some}
use Rattle.types.specs.Numbers.{Shard, Id, Epoch}
use Rattle.types.specs.Shards.{left_of, right_of, quorum}
use Rattle.types.specs.Places.{is_seated_on, is_ready}
use Rattle.types.specs.declared.Answer.TheVariants.{NoBoundary}
use Rattle.rules.specs.Lists.{◌and◌, count, keep, sort}
use Rattle.rules.specs.Table.{at, update, keys_where, count_where, is_some}
use Rattle.rules.specs.Board.{Kind, split, merge, Reshape, Board, on_bounds, on_reshapes, epoch_of, size_of}
use Rattle.rules.specs.Draws.{shuffle}
use Rattle.rules.specs.Moves.{says, members_of, for_all, abort_rotations, with_drain_by, with_terminal, is_kind, old_shards, bounds_stand, marked_boundary}
use Rattle.rules.specs.Turns.{Result, Turn, finished, ◌gives◌, checked, drawn, batch}
use Rattle.rules.specs.Reshapes.{half_up}

-- 'unscheduled ones, rising'
unfoldable pub unscheduled : Kind → Board → List Shard
unscheduled k b = keys_where (λ r. is_kind k r and not (is_some r.terminal)) b.reshapes

-- a split says quiet on its one side, a merge on both
unfoldable pub is_quiet : Reshape → Bool
is_quiet r = elim r.kind [ split ↦ r.quiet_left | merge ↦ r.quiet_left and r.quiet_right ]

-- 'the terminal is epoch plus one, halves are stored, and the boundary gets the terminal and the admitted epoch'
unfoldable pub scheduled : Shard → Reshape → List Id → List Id → Board → Board
scheduled t r left right b =
    for_all (λ s. on_bounds (update s (marked_boundary (epoch_of b + 1) r.admitted))) (old_shards r.kind t)
    (on_reshapes (update t (with_terminal (epoch_of b + 1) left right)) b)

-- 'epoch plus D'
abbrev pub drain_end : Board → Epoch
drain_end b = epoch_of b + b.settings.drain

-- 'then draining: the first time, drain-by becomes epoch plus D and nothing is scheduled. Later, if quiet, ...'
unfoldable pub drain_or_schedule : Shard → Reshape → List Id → List Id → List ℕ → Board → Turn
drain_or_schedule t r left right draws b =
    elim r.drain_by [
      | none ↦ finished 0 draws (on_reshapes (update t (with_drain_by (drain_end b))) b)
      | some e ↦ cond (is_quiet r) (checked (not (bounds_stand r.kind t b) gives NoBoundary ∷ []) (finished 1 draws (scheduled t r left right b))) (finished 0 draws b)
    ]

-- ---- SCHEDULE SPLITS

-- 'members seated on the target are sorted'
unfoldable pub seated_there : Shard → Board → List Id
seated_there t b = sort (keep (says (is_seated_on t) b) (members_of t b))

-- ready members of a half plus ready seats of its child
unfoldable pub ready_for : Shard → List Id → Reshape → Board → ℕ
ready_for c half r b = count (says is_ready b) half + count_where (λ q. eqb q.child c and q.ready) r.seats

-- 'each half's ready members plus that child's ready seats must reach quorum'
unfoldable pub split_gate : Shard → List Id → List Id → Reshape → Board → Bool
split_gate t left right r b = leb (quorum (size_of b)) (ready_for (left_of t) left r b) and leb (quorum (size_of b)) (ready_for (right_of t) right r b)

-- 'draws and aborts stand even where the gate fails'
unfoldable pub pass_gate : Shard → List Id → List Id → List ℕ → Board → Turn
pass_gate t left right draws b =
    elim (at t b.reshapes) [
      | none ↦ finished 0 draws b
      | some r ↦ cond (split_gate t left right r b) (drain_or_schedule t r left right draws b) (finished 0 draws b)
    ]

-- 'shuffled; the left half has n/2 rounded up'
unfoldable pub halve : Shard → List ℕ → Board → Turn
halve t draws b =
    drawn (shuffle (seated_there t b) draws) (λ ids left.
    pass_gate t (take (half_up (length ids)) ids) (drop (half_up (length ids)) ids) left b)

-- 'first rotations there are aborted'
unfoldable pub schedule_split : Shard → List ℕ → Board → Turn
schedule_split t draws b = halve t draws (abort_rotations t b)

unfoldable pub schedule_splits : List ℕ → Board → Result
schedule_splits draws b = batch schedule_split (unscheduled split b) draws b

-- ---- SCHEDULE MERGES: 'asks quorum of all ready keepers together, then drains alike'

unfoldable pub merge_gate : Reshape → Board → Bool
merge_gate r b = leb (quorum (size_of b)) (count_where (λ q. q.ready) r.seats)

unfoldable pub schedule_merge : Shard → List ℕ → Board → Turn
schedule_merge t draws b =
    elim (at t b.reshapes) [
      | none ↦ finished 0 draws b
      | some r ↦ cond (merge_gate r b) (drain_or_schedule t r [] [] draws b) (finished 0 draws b)
    ]

unfoldable pub schedule_merges : Board → Result
schedule_merges b = batch schedule_merge (unscheduled merge b) [] b
