-- The steps that carry a reshape out: cut splits, cut merges.
use Rattle.std.specs.Prelude.{ℕ, List, [], ◌∷◌, ◌++◌, Bool, false, cond, not, eqb, leb, length}
use Rattle.std.proofs.Math.Option.{none, some}
use Rattle.types.specs.Numbers.{Shard, Id, Epoch, Height}
use Rattle.types.specs.Shards.{left_of, right_of}
use Rattle.types.specs.Places.{is_seated_on, is_observing, pooled, moved_to, kept_on, seated_from_watch}
use Rattle.types.specs.declared.Place.{Place}
use Rattle.types.specs.declared.Answer.TheVariants.{NoRecord, NoBoundary, NoRoom}
use Rattle.rules.specs.Lists.{◌and◌, ◌or◌, every, keep}
use Rattle.rules.specs.Table.{Table, at, stands, put, remove, keys_where, keys_of}
use Rattle.rules.specs.Board.{Kind, split, merge, Seat, Reshape, Board, most_committees, most_bounds, on_committees, on_bounds, on_rotations, on_reshapes, epoch_of}
use Rattle.rules.specs.Moves.{members_of, place, put_on, for_all, drop_rotations, is_kind, old_shards, new_shards, bounds_stand, new_boundary, height_of}
use Rattle.rules.specs.Turns.{Result, Turn, finished, Fault, ◌gives◌, checked, batch}

-- 'when the terminal is at most the epoch'
unfoldable pub is_terminal : Epoch → Reshape → Bool
is_terminal epoch r = elim r.terminal [ none ↦ false | some e ↦ leb e epoch ]

unfoldable pub due : Kind → Board → List Shard
due k b = keys_where (λ r. is_kind k r and is_terminal (epoch_of b) r) b.reshapes

-- ---- the tables of a family at its cut: record, committees and rotations of the old shards go; the new shards get an empty committee and a boundary

abbrev pub end_shard : Shard → Board → Board
end_shard s b = on_rotations (drop_rotations s) (on_committees (remove s) b)

abbrev pub begin_shard : Height → Shard → Board → Board
begin_shard height s b = on_bounds (put s (new_boundary height (epoch_of b))) (on_committees (put s []) b)

unfoldable pub recast : Kind → Shard → Height → Board → Board
recast k t height b = for_all (begin_shard height) (new_shards k t) (for_all end_shard (old_shards k t) (on_reshapes (remove t) b))

unfoldable pub fits : Board → Bool
fits b = leb (length b.committees) most_committees and leb (length b.bounds) most_bounds

-- what a cut asks: 5, then 4 of a list of ids, then 11 of the board that it comes to
unfoldable pub cut_faults : Kind → Shard → List Id → Board → Board → List Fault
cut_faults k t ids after b =
    not (bounds_stand k t b) gives NoBoundary
    ∷ not (every (λ x. stands x b.machines) ids) gives NoRecord
    ∷ not (fits after) gives NoRoom
    ∷ []

-- ---- CUT SPLITS

-- 'one observing that has a seat in this split becomes seated with the seat's ready, stamped now'
abbrev pub seated_by : Shard → Seat → Epoch → Place → Place
seated_by c q now p = seated_from_watch c q.ready now p

-- 'one seated on the target moves, keeping ready and stamp; ...; others are passed over'
unfoldable pub settle : Shard → Shard → Table Seat → Id → Board → Board
settle t c seats x b =
    elim (at x b.machines) [
      | none ↦ b
      | some p ↦
          cond (is_seated_on t p) (put_on c (moved_to c) x b)
          (elim (at x seats) [ none ↦ b | some q ↦ cond (is_observing p) (put_on c (seated_by c q (epoch_of b)) x b) b ])
    ]

-- 'cohort seats of that child by id'
unfoldable pub cohort_for : Shard → Table Seat → List Id
cohort_for c = keys_where (λ q. eqb q.child c)

-- 'per child, left first: the half in its order, then cohort seats of that child'
unfoldable pub settle_child : Shard → Shard → List Id → Table Seat → Board → Board
settle_child t c half seats = for_all (settle t c seats) (half ++ cohort_for c seats)

unfoldable pub cut_split_of : Shard → Reshape → List ℕ → Board → Turn
cut_split_of t r draws b =
    let after = recast split t (height_of t b) b in
    checked (cut_faults split t (r.left ++ (r.right ++ keys_of r.seats)) after b)
    (finished 1 draws (settle_child t (right_of t) r.right r.seats (settle_child t (left_of t) r.left r.seats after)))

unfoldable pub cut_split : Shard → List ℕ → Board → Turn
cut_split t draws b = elim (at t b.reshapes) [ none ↦ finished 0 draws b | some r ↦ cut_split_of t r draws b ]

unfoldable pub cut_splits : Board → Result
cut_splits b = batch cut_split (due split b) [] b

-- ---- CUT MERGES

-- 'members that aren't keepers are pooled from any place'
unfoldable pub others : Shard → Table Seat → Board → List Id
others t keepers b = keep (λ x. not (stands x keepers)) (members_of (left_of t) b ++ members_of (right_of t) b)

-- 'keepers, by id, seated on a child move to the parent with the seat's ready, own stamp kept, others are passed over'
unfoldable pub rejoin : Shard → Table Seat → Id → Board → Board
rejoin t keepers x b =
    elim (at x b.machines) [
      | none ↦ b
      | some p ↦
          elim (at x keepers) [ none ↦ b | some q ↦ cond (is_seated_on (left_of t) p or is_seated_on (right_of t) p) (put_on t (kept_on t q.ready) x b) b ]
    ]

-- 'height the larger child's'
abbrev pub larger : Height → Height → Height
larger m n = cond (leb m n) n m

unfoldable pub cut_merge_of : Shard → Reshape → List ℕ → Board → Turn
cut_merge_of t r draws b =
    let after = recast merge t (larger (height_of (left_of t) b) (height_of (right_of t) b)) b in
    checked (cut_faults merge t (keys_of r.seats) after b)
    (finished 1 draws (for_all (rejoin t r.seats) (keys_of r.seats) (for_all (λ x. place x pooled) (others t r.seats b) after)))

unfoldable pub cut_merge : Shard → List ℕ → Board → Turn
cut_merge t draws b = elim (at t b.reshapes) [ none ↦ finished 0 draws b | some r ↦ cut_merge_of t r draws b ]

unfoldable pub cut_merges : Board → Result
cut_merges b = batch cut_merge (due merge b) [] b
