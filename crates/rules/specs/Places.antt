-- The steps on places and committees: tick, leave, rotate, resolve, time out.
use Rattle.std.specs.Prelude.{ℕ, ◌+◌, ◌%◌, List, [], ◌∷◌, Bool, false, cond, not, eqb, leb, ltb, length}
use Rattle.std.proofs.Math.Option.{none, some}
use Rattle.types.specs.Numbers.{Shard, Id}
use Rattle.types.specs.Shards.{parent_of}
use Rattle.types.specs.Places.{is_seated_on, is_ready, is_overdue, short, made_ready}
use Rattle.types.specs.declared.Place.{Place}
use Rattle.types.specs.declared.Place.TheVariants.{Pooled, Seated, Observing, Short, Other}
use Rattle.types.specs.declared.Answer.TheVariants.{LastEpoch, OutOfRange, NoRecord, VictimUnfit}
use Rattle.rules.specs.Lists.{◌and◌, count, keep}
use Rattle.rules.specs.Table.{at, stands, holds_at, each, count_where, is_some}
use Rattle.rules.specs.Board.{Settings, Rotation, split, merge, Reshape, Board, most_rotations, last_epoch, on_settings, on_machines, on_rotations, epoch_of, size_of}
use Rattle.rules.specs.WellFormed.{is_shard}
use Rattle.rules.specs.Moves.{says, place, take_off, for_all, pooled_from, has_party, is_party, is_on, open_rotation, drop_first, is_kind, reshape_at, give_up_seat}
use Rattle.rules.specs.Turns.{Result, Turn, finished, refused, ◌gives◌, checked, unless_well_formed, alone, pool_draw}

-- ---- TICK: 'epoch plus one'

abbrev pub next_epoch : Settings → Settings
next_epoch s = record { epoch = s.epoch + 1; size = s.size; drain = s.drain; wait = s.wait; interval = s.interval; most = s.most }

unfoldable pub tick : Board → Result
tick b = alone [] b (checked (unless_well_formed b ∷ eqb (epoch_of b) last_epoch gives LastEpoch ∷ []) (finished 1 [] (on_settings next_epoch b)))

-- ---- LEAVE: 'the machine is short of stake'

unfoldable pub is_scheduled_split : Reshape → Bool
is_scheduled_split r = is_kind split r and is_some r.terminal

-- 'unless a scheduled split stands there'
unfoldable pub is_carved : Shard → Board → Bool
is_carved s b = holds_at s is_scheduled_split b.reshapes

-- 'struck from committee and from keepers of a merge at the shard's parent'
unfoldable pub leave_seat : Shard → Id → Board → Board
leave_seat s x b = give_up_seat merge (parent_of s) x (take_off s short x b)

-- 'if it is a party of a rotation there, the first such rotation (by victim) goes and nobody is drawn; else ... one pool draw'
unfoldable pub leave_from_seat : Shard → Id → List ℕ → Board → Turn
leave_from_seat s x draws b =
    cond (is_party s x b) (finished 0 draws (on_rotations (drop_first (has_party s x)) (leave_seat s x b)))
    (cond (is_carved s b) (finished 0 draws (leave_seat s x b))
    (pool_draw s false (λ y c. c) draws (leave_seat s x b)))

-- 'if observing: struck from committee and cohort'
unfoldable pub leave_from : Place → Id → List ℕ → Board → Turn
leave_from Pooled x draws b = finished 0 draws (place x short b)
leave_from (Seated s r w) x draws b = leave_from_seat s.0 x draws b
leave_from (Observing s w) x draws b = finished 0 draws (give_up_seat split s.0 x (take_off s.0 short x b))
leave_from Short x draws b = finished 0 draws (place x short b)
leave_from (Other m) x draws b = finished 0 draws (place x short b)

unfoldable pub leave_turn : Id → List ℕ → Board → Turn
leave_turn x draws b = elim (at x b.machines) [ none ↦ refused NoRecord | some p ↦ leave_from p x draws b ]

unfoldable pub leave : Id → List ℕ → Board → Result
leave x draws b = alone draws b (checked (unless_well_formed b ∷ []) (leave_turn x draws b))

-- ---- ROTATE

-- 'rotations whose entrant isn't seated and ready'
unfoldable pub in_flight : Shard → Board → ℕ
in_flight s b = count (λ r. is_on s r and not (says is_ready b r.entrant)) b.rotations

-- 'the epoch is a nonzero multiple of the interval, the shard has a committee and no split, and rotations [in flight] number fewer than the limit'
unfoldable pub may_rotate : Shard → Board → Bool
may_rotate s b =
    not (eqb (epoch_of b) 0)
    and eqb (epoch_of b % b.settings.interval) 0
    and stands s b.committees
    and not (reshape_at split s b)
    and ltb (in_flight s b) b.settings.most

-- 8: 'the victim isn't seated there, or is already victim or entrant there'
unfoldable pub victim_fit : Shard → Id → Board → Bool
victim_fit s v b = says (is_seated_on s) b v and not (is_party s v b)

abbrev pub new_rotation : Shard → Id → Id → Board → Rotation
new_rotation s v x b = record { shard = s; victim = v; entrant = x; opened = epoch_of b }

-- 'then the victim check, then a pool draw'
unfoldable pub rotate_turn : Shard → Id → List ℕ → Board → Turn
rotate_turn s v draws b =
    checked (not (victim_fit s v b) gives VictimUnfit ∷ [])
    (pool_draw s (leb most_rotations (length b.rotations)) (λ x. on_rotations (open_rotation (new_rotation s v x b))) draws b)

unfoldable pub rotate : Shard → Id → List ℕ → Board → Result
rotate s v draws b =
    alone draws b
    (checked (unless_well_formed b ∷ not (is_shard s) gives OutOfRange ∷ [])
    (cond (may_rotate s b) (rotate_turn s v draws b) (finished 0 draws b)))

-- ---- RESOLVE

-- 'those whose entrant was ready and seated there when the call began'
unfoldable pub is_resolved : Board → Rotation → Bool
is_resolved b r = says (is_seated_on r.shard) b r.entrant and says is_ready b r.entrant

-- 'a committee there has at most S members plus one per rotation still open there'
unfoldable pub has_seats_free : Shard → Board → Bool
has_seats_free s b = holds_at s (λ members. leb (length members) (size_of b + count (is_on s) b.rotations)) b.committees

abbrev pub is_rotation : Shard → Id → Rotation → Bool
is_rotation s v r = is_on s r and eqb r.victim v

-- 'unless ... the victim is struck and, if seated there, pooled'
unfoldable pub retire : Shard → Id → Board → Board
retire s v b = cond (has_seats_free s b) b (take_off s (pooled_from (is_seated_on s)) v b)

-- 'the rotation goes', then its victim
unfoldable pub close : Rotation → Board → Board
close r b = retire r.shard r.victim (on_rotations (drop_first (is_rotation r.shard r.victim)) b)

unfoldable pub resolved : Board → List Rotation
resolved b = keep (is_resolved b) b.rotations

unfoldable pub resolve : Board → Result
resolve b = alone [] b (checked (unless_well_formed b ∷ []) (finished (length (resolved b)) [] (for_all close (resolved b) b)))

-- ---- TIME OUT: 'waiting machines at or past the deadline become ready, stamp kept'

abbrev pub is_due : Board → Place → Bool
is_due b = is_overdue (epoch_of b) b.settings.wait

unfoldable pub time_out : Board → Result
time_out b =
    alone [] b
    (checked (unless_well_formed b ∷ [])
    (finished (count_where (is_due b) b.machines) [] (on_machines (each (λ x p. cond (is_due b p) (made_ready p) p)) b)))
