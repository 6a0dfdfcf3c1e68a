-- The abstract board: what the snapshot's sections say, its limits and its ranges.
use Rattle.std.specs.Prelude.{ℕ, List, Bool}
use Rattle.std.proofs.Math.Option.{Option}
use Rattle.types.specs.Numbers.{Shard, Id, Epoch, Height}
use Rattle.types.specs.declared.Place.{Place}
use Rattle.types.specs.declared.Machine.{Machine}
use Rattle.rules.specs.Table.{Entry, Table}

pub record Settings : Type 0 where
  pub epoch : Epoch
  -- the shard size S
  pub size : ℕ
  -- the drain length D
  pub drain : ℕ
  -- the ready wait W
  pub wait : ℕ
  -- the shuffle interval
  pub interval : ℕ
  -- most rotations in flight
  pub most : ℕ

pub record Boundary : Type 0 where
  pub height : Height
  pub formed : Epoch
  pub last_live : Epoch
  pub terminal : Option Epoch
  pub admitted : Option Epoch

pub record Rotation : Type 0 where
  pub shard : Shard
  pub victim : Id
  pub entrant : Id
  pub opened : Epoch

pub data Kind : Type 0 where
  split : Kind
  merge : Kind

-- of a cohort or of keepers, by id
pub record Seat : Type 0 where
  pub child : Shard
  pub ready : Bool

pub record Reshape : Type 0 where
  pub kind : Kind
  pub admitted : Epoch
  pub drain_by : Option Epoch
  pub terminal : Option Epoch
  pub quiet_left : Bool
  pub quiet_right : Bool
  pub seats : Table Seat
  pub left : List Id
  pub right : List Id

-- machines by id; committees, boundaries and reshapes by shard; rotations by shard, then victim
pub record Board : Type 0 where
  pub settings : Settings
  pub machines : Table Place
  pub committees : Table (List Id)
  pub bounds : Table Boundary
  pub rotations : List Rotation
  pub reshapes : Table Reshape

-- a machine's record, as the code holds it
abbrev pub machine_of : Entry Place → Machine
machine_of e = record { id = record { 0 = e.key }; place = e.val }

-- ---- 'at most 256 machines, 24 committees of 96, 48 boundaries, 48 rotations, 8 reshapes, 32 seats in a reshape and 48 ids in a half'

abbrev pub most_machines : ℕ
most_machines = 256

abbrev pub most_committees : ℕ
most_committees = 24

abbrev pub most_members : ℕ
most_members = 96

abbrev pub most_bounds : ℕ
most_bounds = 48

abbrev pub most_rotations : ℕ
most_rotations = 48

abbrev pub most_reshapes : ℕ
most_reshapes = 8

abbrev pub most_seats : ℕ
most_seats = 32

abbrev pub most_half : ℕ
most_half = 48

-- ---- the ranges

-- the last epoch that the settings can name, and the last that any other field can
abbrev pub last_epoch : Epoch
last_epoch = 4294967295

abbrev pub last_stamp : Epoch
last_stamp = 8589934591

-- 'shards are 1 to 65,535', 'reshape targets at most 32,767'
abbrev pub last_shard : Shard
last_shard = 65535

abbrev pub last_target : Shard
last_target = 32767

-- 'ids and heights are any 64-bit number'
abbrev pub last_word : ℕ
last_word = 18446744073709551615

-- ---- one part of the board changed

abbrev pub on_settings : (Settings → Settings) → Board → Board
on_settings f b =
    record { settings = f b.settings; machines = b.machines; committees = b.committees; bounds = b.bounds; rotations = b.rotations; reshapes = b.reshapes }

abbrev pub on_machines : (Table Place → Table Place) → Board → Board
on_machines f b =
    record { settings = b.settings; machines = f b.machines; committees = b.committees; bounds = b.bounds; rotations = b.rotations; reshapes = b.reshapes }

abbrev pub on_committees : (Table (List Id) → Table (List Id)) → Board → Board
on_committees f b =
    record { settings = b.settings; machines = b.machines; committees = f b.committees; bounds = b.bounds; rotations = b.rotations; reshapes = b.reshapes }

abbrev pub on_bounds : (Table Boundary → Table Boundary) → Board → Board
on_bounds f b =
    record { settings = b.settings; machines = b.machines; committees = b.committees; bounds = f b.bounds; rotations = b.rotations; reshapes = b.reshapes }

abbrev pub on_rotations : (List Rotation → List Rotation) → Board → Board
on_rotations f b =
    record { settings = b.settings; machines = b.machines; committees = b.committees; bounds = b.bounds; rotations = f b.rotations; reshapes = b.reshapes }

abbrev pub on_reshapes : (Table Reshape → Table Reshape) → Board → Board
on_reshapes f b =
    record { settings = b.settings; machines = b.machines; committees = b.committees; bounds = b.bounds; rotations = b.rotations; reshapes = f b.reshapes }

abbrev pub epoch_of : Board → Epoch
epoch_of b = b.settings.epoch

abbrev pub size_of : Board → ℕ
size_of b = b.settings.size
