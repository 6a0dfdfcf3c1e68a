-- The seat check: document 01's sentence, clause by clause.
use Rattle.std.specs.Prelude.{◌+◌, List, [], ◌∷◌, Bool, true, false, not, eqb}
use Rattle.types.specs.Numbers.{Shard, Id}
use Rattle.types.specs.Places.{is_seated_on, observes}
use Rattle.types.specs.declared.Place.{Place}
use Rattle.types.specs.declared.Place.TheVariants.{Pooled, Seated, Observing, Short, Other}
use Rattle.rules.specs.Lists.{◌and◌, ◌or◌, all_of, bit_of, every, any, has, distinct}
use Rattle.rules.specs.Table.{Entry, stands, holds_at, keys_of}
use Rattle.rules.specs.Board.{Rotation, split, Reshape, Board}
use Rattle.rules.specs.WellFormed.{well_formed}
use Rattle.rules.specs.Moves.{says, members_of, is_on, is_kind, overlaps, committees_fit, bounds_stand}
use Rattle.rules.specs.Places.{is_scheduled_split}

-- 'an id is in s's committee exactly if its machine is seated on or observes s': who is in it
unfoldable pub members_are_there : Board → Bool
members_are_there b = every (λ e. every (says (λ p. is_seated_on e.key p or observes e.key p) b) e.val) b.committees

-- a machine has a seat in a split at s
unfoldable pub has_cohort_seat : Shard → Id → Board → Bool
has_cohort_seat s x b = holds_at s (λ r. is_kind split r and stands x r.seats) b.reshapes

-- ... and who is on it is in it; and 'has a seat in a split at s exactly if its machine observes s': who observes has one
unfoldable pub is_listed : Board → Id → Place → Bool
is_listed b x Pooled = true
is_listed b x (Seated s r w) = has x (members_of s.0 b)
is_listed b x (Observing s w) = has x (members_of s.0 b) and has_cohort_seat s.0 x b
is_listed b x Short = true
is_listed b x (Other m) = true

unfoldable pub machines_are_listed : Board → Bool
machines_are_listed b = every (λ e. is_listed b e.key e.val) b.machines

-- who has a seat in a split observes its target
unfoldable pub cohorts_watch : Board → Bool
cohorts_watch b = every (λ e. not (is_kind split e.val) or every (says (observes e.key) b) (keys_of e.val.seats)) b.reshapes

-- victims and entrants of all rotations of a shard together
unfoldable pub parties_on : Shard → List Rotation → List Id
parties_on s [] = []
parties_on s (r ∷ l) = elim (is_on s r) [ true ↦ r.victim ∷ r.entrant ∷ parties_on s l | false ↦ parties_on s l ]

-- 'rotation parties on a shard are distinct and seated there'
unfoldable pub parties_fit : Board → Rotation → Bool
parties_fit b r = distinct (parties_on r.shard b.rotations) and every (says (is_seated_on r.shard) b) (parties_on r.shard b.rotations)

unfoldable pub rotations_fit : Board → Bool
rotations_fit b = every (parties_fit b) b.rotations

-- 'each machine seated there is in exactly one half'
unfoldable pub is_in_one_half : Shard → Reshape → Entry Place → Bool
is_in_one_half s r e = not (is_seated_on s e.val) or eqb (bit_of (has e.key r.left) + bit_of (has e.key r.right)) 1

-- 'a scheduled split has no rotations and ...'
unfoldable pub scheduled_fit : Board → Bool
scheduled_fit b =
    every (λ e.
    not (is_scheduled_split e.val)
    or (not (any (is_on e.key) b.rotations) and every (is_in_one_half e.key e.val) b.machines)) b.reshapes

-- 'reshape families don't overlap'
unfoldable pub families_apart : List Shard → Bool
families_apart [] = true
families_apart (t ∷ l) = not (any (overlaps t) l) and families_apart l

-- 'each reshape has the committees, gaps and boundaries its admission asks for'
unfoldable pub reshapes_stand : Board → Bool
reshapes_stand b = every (λ e. committees_fit e.val.kind e.key b and bounds_stand e.val.kind e.key b) b.reshapes

unfoldable pub seat_check : Board → Bool
seat_check b =
    all_of
    (well_formed b
    ∷ members_are_there b
    ∷ machines_are_listed b
    ∷ cohorts_watch b
    ∷ rotations_fit b
    ∷ scheduled_fit b
    ∷ families_apart (keys_of b.reshapes)
    ∷ reshapes_stand b
    ∷ [])
