-- A series of calls, and what demand 3 tells from the boards before and after each of them.
use Rattle.std.specs.Prelude.{List, [], ◌∷◌, Bool, true, false, cond, not, eqb}
use Rattle.std.proofs.Math.Option.{Option, none, some, map}
use Rattle.types.specs.Numbers.{Shard, Id, Epoch}
use Rattle.types.specs.Answers.{number_of}
use Rattle.types.specs.Places.{is_pooled, is_observing, pooled}
use Rattle.types.specs.declared.Place.{Place}
use Rattle.types.specs.declared.Place.TheVariants.{Pooled, Seated, Observing, Short, Other}
use Rattle.rules.specs.Lists.{◌and◌, ◌or◌, has, keep, strike}
use Rattle.rules.specs.Table.{at, each, update}
use Rattle.rules.specs.Board.{split, Board, on_machines, on_committees, on_reshapes, epoch_of}
use Rattle.rules.specs.Moves.{reshape_at, with_seats}
use Rattle.rules.specs.Reshapes.{cohort_of}
use Rattle.rules.specs.Calls as calls

-- the board after a call, and after a series
abbrev pub next : calls.Call → Board → Board
next c b = (calls.answer_to c b).board

unfoldable pub after : List calls.Call → Board → Board
after [] b = b
after (c ∷ cs) b = after cs (next c b)

-- ---- stamps

abbrev pub is_seated : Place → Bool
is_seated Pooled = false
is_seated (Seated s r w) = true
is_seated (Observing s w) = false
is_seated Short = false
is_seated (Other m) = false

-- the stamp of a seated or observing machine
unfoldable pub stamp_of : Place → Option Epoch
stamp_of Pooled = none
stamp_of (Seated s r w) = some w.0
stamp_of (Observing s w) = some w.0
stamp_of Short = none
stamp_of (Other m) = none

unfoldable pub stamp_in : Option Place → Option Epoch
stamp_in none = none
stamp_in (some p) = stamp_of p

abbrev pub stamp_at : Id → Board → Option Epoch
stamp_at x b = stamp_in (at x b.machines)

-- 'a seating is a move from pool to seat, pool to watch, or watch to seat'
unfoldable pub is_seating : Place → Place → Bool
is_seating p q = (is_pooled p and (is_seated q or is_observing q)) or (is_observing p and is_seated q)

unfoldable pub seating_from : Option Place → Option Place → Bool
seating_from none q = false
seating_from (some p) none = false
seating_from (some p) (some q) = is_seating p q

abbrev pub seats : Id → Board → Board → Bool
seats x before after = seating_from (at x before.machines) (at x after.machines)

-- 'the epoch of its last seating in the series, or its starting stamp if it had none': a call's epoch is that of the board it is made on
unfoldable pub last_seating : Id → List calls.Call → Board → Option Epoch → Option Epoch
last_seating x [] b stamp = stamp
last_seating x (c ∷ cs) b stamp = last_seating x cs (next c b) (cond (seats x b (next c b)) (some (epoch_of b)) stamp)

-- ---- cohorts

-- the call is done
abbrev pub is_done : calls.Call → Board → Bool
is_done c b = eqb (number_of (calls.answer_to c b).answer) 0

-- what a call makes of the machines drawn for a split at t: 'drawn in the series', 'neither cut nor lapsed', 'that haven't left'
unfoldable pub drawn_after : Shard → calls.Call → Board → Option (List Id) → Option (List Id)
drawn_after t calls.tick b drawn = drawn
drawn_after t (calls.admit_split u) b drawn = drawn
drawn_after t (calls.admit_merge u draws) b drawn = drawn
drawn_after t (calls.mark_seat_ready u x) b drawn = drawn
drawn_after t (calls.mark_quiet u side) b drawn = drawn
drawn_after t (calls.draw_cohort u draws) b drawn = cond (eqb u t and is_done (calls.draw_cohort u draws) b) (some (cohort_of t (next (calls.draw_cohort u draws) b))) drawn
drawn_after t (calls.lapse u) b drawn = cond (eqb u t and is_done (calls.lapse u) b) none drawn
drawn_after t (calls.schedule_splits draws) b drawn = drawn
drawn_after t calls.schedule_merges b drawn = drawn
drawn_after t calls.cut_splits b drawn = cond (reshape_at split t (next calls.cut_splits b)) drawn none
drawn_after t calls.cut_merges b drawn = drawn
drawn_after t (calls.leave x draws) b drawn = cond (is_done (calls.leave x draws) b) (map (strike x) drawn) drawn
drawn_after t (calls.rotate s v draws) b drawn = drawn
drawn_after t calls.resolve b drawn = drawn
drawn_after t calls.time_out b drawn = drawn

-- the machines drawn in a series for the split at t that are still drawn; none where no cohort was, or the split has since been cut or lapsed
unfoldable pub drawn_in : Shard → List calls.Call → Board → Option (List Id) → Option (List Id)
drawn_in t [] b drawn = drawn
drawn_in t (c ∷ cs) b drawn = drawn_in t cs (next c b) (drawn_after t c b drawn)

-- 'sends to the pool exactly the drawn machines, strikes just those from the target's committee, empties the cohort list, and changes nothing more'
unfoldable pub sent_back : Shard → List Id → Board → Board
sent_back t ids b =
    on_reshapes (update t (with_seats (λ seats. [])))
    (on_committees (update t (keep (λ x. not (has x ids))))
    (on_machines (each (λ x p. cond (has x ids) (pooled p) p)) b))
