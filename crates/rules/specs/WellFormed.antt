-- When a board is well-formed: document 01's paragraph, clause by clause.
use Rattle.std.specs.Prelude.{ℕ, List, [], ◌∷◌, Bool, true, false, not, eqb, leb, ltb, length}
use Rattle.std.proofs.Math.Option.{Option, none, some}
use Rattle.types.specs.Numbers.{Shard, Id, Epoch}
use Rattle.types.specs.Shards.{left_of, right_of}
use Rattle.types.specs.declared.Place.{Place}
use Rattle.types.specs.declared.Place.TheVariants.{Pooled, Seated, Observing, Short, Other}
use Rattle.rules.specs.Lists.{◌and◌, ◌or◌, all_of, every, is_empty, distinct}
use Rattle.rules.specs.Table.{Entry, Table}
use Rattle.rules.specs.Board.{Settings, Boundary, Rotation, Kind, split, merge, Seat, Reshape, Board, most_machines, most_committees, most_members, most_bounds, most_rotations, most_reshapes, most_seats, most_half, last_epoch, last_stamp, last_shard, last_target, last_word}

abbrev pub within : ℕ → ℕ → ℕ → Bool
within low high n = leb low n and leb n high

abbrev pub is_shard : Shard → Bool
is_shard = within 1 last_shard

abbrev pub is_target : Shard → Bool
is_target = within 1 last_target

abbrev pub is_word : ℕ → Bool
is_word n = leb n last_word

abbrev pub is_stamp : Epoch → Bool
is_stamp e = leb e last_stamp

-- neighbours are in order
unfoldable pub rising : {A : Type 0} → (A → A → Bool) → List A → Bool
rising before [] = true
rising before (x ∷ []) = true
rising before (x ∷ y ∷ l) = before x y and rising before (y ∷ l)

abbrev pub key_before : {A : Type 0} → Entry A → Entry A → Bool
key_before d e = ltb d.key e.key

-- within its limit, every entry good, 'strictly rising'
unfoldable pub good_list : {A : Type 0} → ℕ → (A → Bool) → (A → A → Bool) → List A → Bool
good_list most good before l = all_of (leb (length l) most ∷ every good l ∷ rising before l ∷ [])

abbrev pub good_table : {A : Type 0} → ℕ → (Entry A → Bool) → Table A → Bool
good_table most good = good_list most good key_before

-- 'ids within a committee or a half distinct'
unfoldable pub good_ids : ℕ → List Id → Bool
good_ids most l = all_of (leb (length l) most ∷ every is_word l ∷ distinct l ∷ [])

-- an epoch under a flag
unfoldable pub good_option : Option Epoch → Bool
good_option none = true
good_option (some e) = is_stamp e

-- 'epoch (0 to 4,294,967,295), S (4 to 32), drain length D and ready wait W (0 to 1,000,000), shuffle interval (1 to 1,000,000), most rotations in flight (0 to 48)'
unfoldable pub good_settings : Settings → Bool
good_settings s =
    all_of
    (leb s.epoch last_epoch
    ∷ within 4 32 s.size
    ∷ leb s.drain 1000000
    ∷ leb s.wait 1000000
    ∷ within 1 1000000 s.interval
    ∷ leb s.most 48
    ∷ [])

-- 'pooled, seated (shard, ready or waiting, stamp), observing (shard, stamp), short of stake, or other with a mark 1 to 255'
unfoldable pub good_place : Place → Bool
good_place Pooled = true
good_place (Seated s r w) = is_shard s.0 and is_stamp w.0
good_place (Observing s w) = is_shard s.0 and is_stamp w.0
good_place Short = true
good_place (Other m) = within 1 255 m

unfoldable pub good_machine : Entry Place → Bool
good_machine e = is_word e.key and good_place e.val

unfoldable pub good_committee : Entry (List Id) → Bool
good_committee e = is_shard e.key and good_ids most_members e.val

unfoldable pub good_boundary : Entry Boundary → Bool
good_boundary e =
    all_of
    (is_shard e.key
    ∷ is_word e.val.height
    ∷ is_stamp e.val.formed
    ∷ is_stamp e.val.last_live
    ∷ good_option e.val.terminal
    ∷ good_option e.val.admitted
    ∷ [])

unfoldable pub good_rotation : Rotation → Bool
good_rotation r = all_of (is_shard r.shard ∷ is_word r.victim ∷ is_word r.entrant ∷ is_stamp r.opened ∷ [])

-- 'rotations by shard then victim'
unfoldable pub rotation_before : Rotation → Rotation → Bool
rotation_before q r = ltb q.shard r.shard or (eqb q.shard r.shard and ltb q.victim r.victim)

-- 'a seat's child is a child of its target'
unfoldable pub good_seat : Shard → Entry Seat → Bool
good_seat t e = is_word e.key and (eqb e.val.child (left_of t) or eqb e.val.child (right_of t))

-- 'quiet right (0 for a split)'
unfoldable pub good_quiet : Kind → Bool → Bool
good_quiet split right = not right
good_quiet merge right = true

-- 'halves empty unless a split is scheduled'
unfoldable pub may_have_halves : Kind → Option Epoch → Bool
may_have_halves split none = false
may_have_halves split (some e) = true
may_have_halves merge o = false

unfoldable pub good_reshape : Entry Reshape → Bool
good_reshape e =
    all_of
    (is_target e.key
    ∷ is_stamp e.val.admitted
    ∷ good_option e.val.drain_by
    ∷ good_option e.val.terminal
    ∷ good_quiet e.val.kind e.val.quiet_right
    ∷ good_table most_seats (good_seat e.key) e.val.seats
    ∷ good_ids most_half e.val.left
    ∷ good_ids most_half e.val.right
    ∷ (may_have_halves e.val.kind e.val.terminal or (is_empty e.val.left and is_empty e.val.right))
    ∷ [])

unfoldable pub well_formed : Board → Bool
well_formed b =
    all_of
    (good_settings b.settings
    ∷ good_table most_machines good_machine b.machines
    ∷ good_table most_committees good_committee b.committees
    ∷ good_table most_bounds good_boundary b.bounds
    ∷ good_list most_rotations good_rotation rotation_before b.rotations
    ∷ good_table most_reshapes good_reshape b.reshapes
    ∷ [])
