-- The moves that all steps are made of.
use Rattle.std.specs.Prelude.{◌+◌, List, [], ◌∷◌, ◌++◌, Bool, true, false, cond, not, eqb, leb, ltb, length}
use Rattle.std.proofs.Math.Option.{none, some}
use Rattle.types.specs.Numbers.{Shard, Id, Epoch, Height}
use Rattle.types.specs.Shards.{left_of, right_of}
use Rattle.types.specs.Places.{is_pooled, is_seated_on, pooled, set_to_watch}
use Rattle.types.specs.declared.Place.{Place}
use Rattle.rules.specs.Lists.{◌and◌, ◌or◌, every, any, keep, has, strike}
use Rattle.rules.specs.Table.{Table, at, stands, holds_at, put, remove, update, keys_where}
use Rattle.rules.specs.Board.{Boundary, Rotation, Kind, split, merge, Seat, Reshape, Board, most_committees, most_members, on_machines, on_committees, on_rotations, on_reshapes, epoch_of}
use Rattle.rules.specs.WellFormed.{rotation_before}

-- ---- machines and committees

-- 'the pool is every machine marked pooled, by rising id'
unfoldable pub pool_of : Board → List Id
pool_of b = keys_where is_pooled b.machines

-- what a machine's place says; no record says no
abbrev pub says : (Place → Bool) → Board → Id → Bool
says f b x = holds_at x f b.machines

unfoldable pub members_of : Shard → Board → List Id
members_of s b = elim (at s b.committees) [ none ↦ [] | some members ↦ members ]

-- a machine's place is changed
unfoldable pub place : Id → (Place → Place) → Board → Board
place x move = on_machines (update x move)

-- 'at the end of the shard's committee, opened if missing'
unfoldable pub join : Shard → Id → Board → Board
join s x b = on_committees (put s (members_of s b ++ (x ∷ []))) b

-- struck from the shard's committee
unfoldable pub quit : Shard → Id → Board → Board
quit s x = on_committees (update s (strike x))

-- onto a shard: a new place, and a member
unfoldable pub put_on : Shard → (Place → Place) → Id → Board → Board
put_on s move x b = join s x (place x move b)

-- off a shard: a new place, and no member
unfoldable pub take_off : Shard → (Place → Place) → Id → Board → Board
take_off s move x b = quit s x (place x move b)

-- one move for each of a list, in its order
unfoldable pub for_all : {A : Type 0} → (A → Board → Board) → List A → Board → Board
for_all move [] b = b
for_all move (x ∷ l) b = for_all move l (move x b)

-- 'if seated there, pooled'; 'those observing the target are pooled'
abbrev pub pooled_from : (Place → Bool) → Place → Place
pooled_from there p = cond (there p) (pooled p) p

-- the committee has room for ids that are to join it and are not in it yet: what 11 asks
unfoldable pub may_join : Shard → List Id → Board → Bool
may_join s ids b =
    (stands s b.committees or ltb (length b.committees) most_committees)
    and every (λ x. not (has x (members_of s b))) ids
    and leb (length (members_of s b) + length ids) most_members

-- ---- rotations

-- on the shard, and its victim or its entrant
unfoldable pub has_party : Shard → Id → Rotation → Bool
has_party s x r = eqb r.shard s and (eqb r.victim x or eqb r.entrant x)

unfoldable pub is_party : Shard → Id → Board → Bool
is_party s x b = any (has_party s x) b.rotations

abbrev pub is_on : Shard → Rotation → Bool
is_on s r = eqb r.shard s

unfoldable pub open_rotation : Rotation → List Rotation → List Rotation
open_rotation r [] = r ∷ []
open_rotation r (q ∷ l) = cond (rotation_before r q) (r ∷ q ∷ l) (q ∷ open_rotation r l)

-- 'the first such rotation (by victim) goes'
unfoldable pub drop_first : (Rotation → Bool) → List Rotation → List Rotation
drop_first f [] = []
drop_first f (r ∷ l) = cond (f r) l (r ∷ drop_first f l)

-- the shard's rotations go
unfoldable pub drop_rotations : Shard → List Rotation → List Rotation
drop_rotations s = keep (λ r. not (is_on s r))

unfoldable pub entrants_on : Shard → List Rotation → List Id
entrants_on s [] = []
entrants_on s (r ∷ l) = cond (is_on s r) (r.entrant ∷ entrants_on s l) (entrants_on s l)

-- 'entrants leave the committee and, if seated there, are pooled'
unfoldable pub abort_rotations : Shard → Board → Board
abort_rotations s b = on_rotations (drop_rotations s) (for_all (take_off s (pooled_from (is_seated_on s))) (entrants_on s b.rotations) b)

-- ---- reshapes

abbrev pub with_seats : (Table Seat → Table Seat) → Reshape → Reshape
with_seats f r =
    record { kind = r.kind; admitted = r.admitted; drain_by = r.drain_by; terminal = r.terminal; quiet_left = r.quiet_left; quiet_right = r.quiet_right; seats = f r.seats; left = r.left; right = r.right }

abbrev pub with_quiet : (Bool → Bool) → (Bool → Bool) → Reshape → Reshape
with_quiet f g r =
    record { kind = r.kind; admitted = r.admitted; drain_by = r.drain_by; terminal = r.terminal; quiet_left = f r.quiet_left; quiet_right = g r.quiet_right; seats = r.seats; left = r.left; right = r.right }

abbrev pub with_drain_by : Epoch → Reshape → Reshape
with_drain_by e r =
    record { kind = r.kind; admitted = r.admitted; drain_by = some e; terminal = r.terminal; quiet_left = r.quiet_left; quiet_right = r.quiet_right; seats = r.seats; left = r.left; right = r.right }

abbrev pub with_terminal : Epoch → List Id → List Id → Reshape → Reshape
with_terminal e left right r =
    record { kind = r.kind; admitted = r.admitted; drain_by = r.drain_by; terminal = some e; quiet_left = r.quiet_left; quiet_right = r.quiet_right; seats = r.seats; left = left; right = right }

unfoldable pub is_kind : Kind → Reshape → Bool
is_kind split r = elim r.kind [ split ↦ true | merge ↦ false ]
is_kind merge r = elim r.kind [ split ↦ false | merge ↦ true ]

-- a reshape of a kind stands at a shard
abbrev pub reshape_at : Kind → Shard → Board → Bool
reshape_at k s b = holds_at s (is_kind k) b.reshapes

-- seats start not ready
abbrev pub new_seat : Shard → Seat
new_seat c = record { child = c; ready = false }

-- a machine's seat in a reshape of a kind goes
unfoldable pub give_up_seat : Kind → Shard → Id → Board → Board
give_up_seat k t x = on_reshapes (update t (λ r. cond (is_kind k r) (with_seats (remove x) r) r))

-- into the cohort of a split at t, for child c: 'observes the target, stamped now, and joins its committee'
unfoldable pub watch : Shard → Shard → Id → Board → Board
watch t c x b = on_reshapes (update t (with_seats (put x (new_seat c)))) (put_on t (set_to_watch t (epoch_of b)) x b)

-- ---- 'a reshape names its family: target and both children'

abbrev pub children_of : Shard → List Shard
children_of t = left_of t ∷ right_of t ∷ []

abbrev pub family_of : Shard → List Shard
family_of t = t ∷ children_of t

unfoldable pub overlaps : Shard → Shard → Bool
overlaps t u = any (λ s. has s (family_of t)) (family_of u)

-- the shards of the family that live before the cut, with committee and boundary, and those it makes
abbrev pub old_shards : Kind → Shard → List Shard
old_shards split t = t ∷ []
old_shards merge t = children_of t

abbrev pub new_shards : Kind → Shard → List Shard
new_shards split t = children_of t
new_shards merge t = t ∷ []

-- 'the target needs a committee ..., its children no committee'; 'children need committees ..., the parent no committee'
unfoldable pub committees_fit : Kind → Shard → Board → Bool
committees_fit k t b = every (λ s. stands s b.committees) (old_shards k t) and every (λ s. not (stands s b.committees)) (new_shards k t)

unfoldable pub bounds_stand : Kind → Shard → Board → Bool
bounds_stand k t b = every (λ s. stands s b.bounds) (old_shards k t)

-- ---- boundaries

-- 'height, formed epoch+1, last live epoch, no terminal, none admitted'
abbrev pub new_boundary : Height → Epoch → Boundary
new_boundary h e = record { height = h; formed = e + 1; last_live = e; terminal = none; admitted = none }

-- 'the boundary gets the terminal and the admitted epoch'
abbrev pub marked_boundary : Epoch → Epoch → Boundary → Boundary
marked_boundary terminal admitted v = record { height = v.height; formed = v.formed; last_live = v.last_live; terminal = some terminal; admitted = some admitted }

-- the boundary's height; 0 where none stands
unfoldable pub height_of : Shard → Board → Height
height_of s b = elim (at s b.bounds) [ none ↦ 0 | some v ↦ v.height ]
