-- The board in words: every section a table, every width and offset a name.
use Rattle.std.specs.Prelude.{ℕ, ◌+◌, ◌*◌, List, ◌∷◌, ◌++◌, take}
use Rattle.types.specs.Numbers.{Id}
use Rattle.types.specs.declared.Place.{Place}
use Rattle.rules.specs.Table.{Entry, Table}
use Rattle.rules.specs.Board.{Settings, Boundary, Rotation, Seat, Reshape, Board, most_machines, most_committees, most_members, most_bounds, most_rotations, most_reshapes, most_seats, most_half}
use Rattle.rules.specs.Snapshot.{settings_words, machine_words, boundary_words, rotation_words, seat_words, reshape_words}
use Rattle.tables.specs.Rows.{pad, table, id_table}

-- ---- widths

-- the settings have room for more numbers than there are
abbrev pub settings_room : ℕ
settings_room = 15

abbrev pub machine_width : ℕ
machine_width = 5

-- the shard, then the members' table
abbrev pub members_at : ℕ
members_at = 1

abbrev pub committee_width : ℕ
committee_width = members_at + (1 + most_members)

abbrev pub boundary_width : ℕ
boundary_width = 8

abbrev pub rotation_width : ℕ
rotation_width = 4

abbrev pub seat_width : ℕ
seat_width = 3

-- nine words, then the tables of seats, of the left half and of the right
abbrev pub seats_at : ℕ
seats_at = 9

abbrev pub left_at : ℕ
left_at = seats_at + (1 + most_seats * seat_width)

abbrev pub right_at : ℕ
right_at = left_at + (1 + most_half)

abbrev pub reshape_width : ℕ
reshape_width = right_at + (1 + most_half)

-- ---- where each section starts

abbrev pub machines_at : ℕ
machines_at = 1 + settings_room

abbrev pub committees_at : ℕ
committees_at = machines_at + (1 + most_machines * machine_width)

abbrev pub bounds_at : ℕ
bounds_at = committees_at + (1 + most_committees * committee_width)

abbrev pub rotations_at : ℕ
rotations_at = bounds_at + (1 + most_bounds * boundary_width)

abbrev pub reshapes_at : ℕ
reshapes_at = rotations_at + (1 + most_rotations * rotation_width)

-- 5,861 words in all
abbrev pub board_size : ℕ
board_size = reshapes_at + (1 + most_reshapes * reshape_width)

-- ---- rows that have lists in them

unfoldable pub committee_row : Entry (List Id) → List ℕ
committee_row e = e.key ∷ id_table most_members e.val

abbrev pub seat_table : Table Seat → List ℕ
seat_table = table seat_words seat_width most_seats

-- the words that a reshape's snapshot begins with
unfoldable pub reshape_head : Entry Reshape → List ℕ
reshape_head e = take seats_at (reshape_words e)

unfoldable pub reshape_row : Entry Reshape → List ℕ
reshape_row e = reshape_head e ++ (seat_table e.val.seats ++ (id_table most_half e.val.left ++ id_table most_half e.val.right))

-- ---- sections

unfoldable pub settings_table : Settings → List ℕ
settings_table s = pad machines_at (settings_words s)

abbrev pub machine_table : Table Place → List ℕ
machine_table = table machine_words machine_width most_machines

abbrev pub committee_table : Table (List Id) → List ℕ
committee_table = table committee_row committee_width most_committees

abbrev pub boundary_table : Table Boundary → List ℕ
boundary_table = table boundary_words boundary_width most_bounds

abbrev pub rotation_table : List Rotation → List ℕ
rotation_table = table rotation_words rotation_width most_rotations

abbrev pub reshape_table : Table Reshape → List ℕ
reshape_table = table reshape_row reshape_width most_reshapes

unfoldable pub encode : Board → List ℕ
encode b =
    settings_table b.settings
    ++ (machine_table b.machines
    ++ (committee_table b.committees ++ (boundary_table b.bounds ++ (rotation_table b.rotations ++ reshape_table b.reshapes))))
