-- The steps on one reshape: admissions, marks, the cohort's draw, the lapse.
use Rattle.std.specs.Prelude.{ℕ, ◌+◌, ◌/◌, List, [], ◌∷◌, ◌++◌, Bool, true, false, not, eqb, leb, ltb, length, take, drop}
use Rattle.std.proofs.Math.Option.{none, some}
use Rattle.types.specs.Numbers.{Shard, Id}
use Rattle.types.specs.Shards.{left_of, right_of}
use Rattle.types.specs.Places.{is_seated_on, observes, is_ready}
use Rattle.types.specs.declared.Answer.TheVariants.{OutOfRange, NoBoundary, NotThere, FamilyTaken, NoRoom, PoolTooSmall}
use Rattle.rules.specs.Lists.{◌and◌, ◌or◌, any, count, keep, is_empty, sort}
use Rattle.rules.specs.Table.{Table, at, stands, holds_at, put, update, keys_of, is_some}
use Rattle.rules.specs.Board.{Kind, split, merge, Seat, Reshape, Board, most_reshapes, on_reshapes, epoch_of, size_of}
use Rattle.rules.specs.WellFormed.{is_target}
use Rattle.rules.specs.Draws.{Drawn, drew, and_then, shuffle}
use Rattle.rules.specs.Moves.{pool_of, says, members_of, take_off, for_all, pooled_from, may_join, with_seats, with_quiet, is_kind, reshape_at, new_seat, watch, overlaps, committees_fit, bounds_stand}
use Rattle.rules.specs.Turns.{Result, Turn, finished, Fault, ◌gives◌, checked, drawn, unless_well_formed, alone}

-- S/2 rounded up: the left child's share
abbrev pub half_up : ℕ → ℕ
half_up n = (n + 1) / 2

-- 3: 'reshape target over 32,767', or 0
abbrev pub unless_target : Shard → Fault
unless_target t = not (is_target t) gives OutOfRange

-- ---- ADMISSIONS

-- 7: 'another reshape names a shard of the family'
unfoldable pub family_free : Shard → Board → Bool
family_free t b = not (any (overlaps t) (keys_of b.reshapes))

-- the checks of an admission up to its draws
unfoldable pub admission_faults : Kind → Shard → Board → List Fault
admission_faults k t b =
    unless_well_formed b
    ∷ unless_target t
    ∷ not (family_free t b and committees_fit k t b) gives FamilyTaken
    ∷ not (bounds_stand k t b) gives NoBoundary
    ∷ []

-- 'admitted now, not quiet'
abbrev pub new_reshape : Kind → Table Seat → Board → Reshape
new_reshape k seats b =
    record { kind = k; admitted = epoch_of b; drain_by = none; terminal = none; quiet_left = false; quiet_right = false; seats = seats; left = []; right = [] }

unfoldable pub admit : Kind → Shard → ℕ → Table Seat → List ℕ → Board → Turn
admit k t handled seats draws b =
    checked (leb most_reshapes (length b.reshapes) gives NoRoom ∷ []) (finished handled draws (on_reshapes (put t (new_reshape k seats b)) b))

-- ADMIT SPLIT: 'an empty cohort'
unfoldable pub admit_split : Shard → Board → Result
admit_split t b = alone [] b (checked (admission_faults split t b) (admit split t 1 [] [] b))

-- KEEPERS: 'per child: committee members seated there, ready ones, then waiting ones'
unfoldable pub seated_members : Bool → Shard → Board → List Id
seated_members true c b = keep (λ x. says (is_seated_on c) b x and says is_ready b x) (members_of c b)
seated_members false c b = keep (λ x. says (is_seated_on c) b x and not (says is_ready b x)) (members_of c b)

-- 'each sorted and shuffled; ready first, waiting only to fill'
unfoldable pub keepers_of : Shard → ℕ → Board → List ℕ → Drawn (List Id)
keepers_of c share b draws =
    and_then (shuffle (sort (seated_members true c b)) draws) (λ ready left.
    and_then (shuffle (sort (seated_members false c b)) left) (λ waiting rest.
    drew (take share (ready ++ waiting)) rest))

-- seats for a list of ids
unfoldable pub seat_all : Shard → List Id → Table Seat → Table Seat
seat_all c [] seats = seats
seat_all c (x ∷ l) seats = seat_all c l (put x (new_seat c) seats)

-- 'left gives S/2 rounded up, right S/2 rounded down'
unfoldable pub draw_keepers : Shard → Board → List ℕ → Drawn (Table Seat)
draw_keepers t b draws =
    and_then (keepers_of (left_of t) (half_up (size_of b)) b draws) (λ lefts left.
    and_then (keepers_of (right_of t) (size_of b / 2) b left) (λ rights rest.
    drew (seat_all (right_of t) rights (seat_all (left_of t) lefts [])) rest))

-- ADMIT MERGE: 'keepers are drawn, the number handled'
unfoldable pub admit_merge : Shard → List ℕ → Board → Result
admit_merge t draws b =
    alone draws b
    (checked (admission_faults merge t b)
    (drawn (draw_keepers t b draws) (λ keepers left. admit merge t (length keepers) keepers left b)))

-- ---- MARKS

abbrev pub ready_seat : Seat → Seat
ready_seat q = record { child = q.child; ready = true }

-- 6: 'mark: no such reshape, seat or side'
unfoldable pub has_seat : Shard → Id → Board → Bool
has_seat t x b = holds_at t (λ r. stands x r.seats) b.reshapes

unfoldable pub mark_seat_ready : Shard → Id → Board → Result
mark_seat_ready t x b =
    alone [] b
    (checked (unless_well_formed b ∷ unless_target t ∷ not (has_seat t x b) gives NotThere ∷ [])
    (finished 1 [] (on_reshapes (update t (with_seats (update x ready_seat))) b)))

-- 'a split has side 0 only'
unfoldable pub has_side : Shard → ℕ → Board → Bool
has_side t side b = holds_at t (λ r. eqb side 0 or is_kind merge r) b.reshapes

-- quiet on side 0, or on side 1
unfoldable pub quieted : ℕ → Reshape → Reshape
quieted side = with_quiet (λ q. q or eqb side 0) (λ q. q or eqb side 1)

unfoldable pub mark_quiet : Shard → ℕ → Board → Result
mark_quiet t side b =
    alone [] b
    (checked (unless_well_formed b ∷ unless_target t ∷ ltb 1 side gives OutOfRange ∷ not (has_side t side b) gives NotThere ∷ [])
    (finished 1 [] (on_reshapes (update t (quieted side)) b)))

-- ---- DRAW COHORT

-- 'needs an unscheduled split with an empty cohort'
unfoldable pub awaits_cohort : Reshape → Bool
awaits_cohort r = is_kind split r and not (is_some r.terminal) and is_empty r.seats

-- 'those at i below S/2 rounded up go left, the rest right'
unfoldable pub watch_all : Shard → List Id → Board → Board
watch_all t ids b = for_all (watch t (right_of t)) (drop (half_up (size_of b)) ids) (for_all (watch t (left_of t)) (take (half_up (size_of b)) ids) b)

-- 'the pool is shuffled; the first S are taken'
unfoldable pub cohort_turn : Shard → List Id → List ℕ → Board → Turn
cohort_turn t ids draws b = checked (not (may_join t ids b) gives NoRoom ∷ []) (finished (size_of b) draws (watch_all t ids b))

unfoldable pub draw_cohort : Shard → List ℕ → Board → Result
draw_cohort t draws b =
    alone draws b
    (checked (unless_well_formed b
    ∷ unless_target t
    ∷ not (holds_at t awaits_cohort b.reshapes) gives NotThere
    ∷ ltb (length (pool_of b)) (size_of b) gives PoolTooSmall
    ∷ [])
    (drawn (shuffle (pool_of b) draws) (λ ids left. cohort_turn t (take (size_of b) ids) left b)))

-- ---- LAPSE

unfoldable pub cohort_of : Shard → Board → List Id
cohort_of t b = elim (at t b.reshapes) [ none ↦ [] | some r ↦ keys_of r.seats ]

-- 'the cohort is emptied and struck from the committee; those observing the target are pooled'
unfoldable pub released : Shard → Board → Board
released t b = on_reshapes (update t (with_seats (λ seats. []))) (for_all (take_off t (pooled_from (observes t))) (cohort_of t b) b)

-- 'it acts on a scheduled split too'
unfoldable pub lapse : Shard → Board → Result
lapse t b =
    alone [] b
    (checked (unless_well_formed b ∷ unless_target t ∷ not (reshape_at split t b) gives NotThere ∷ [])
    (finished (count (says (observes t) b) (cohort_of t b)) [] (released t b)))
