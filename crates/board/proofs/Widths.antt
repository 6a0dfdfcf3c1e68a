-- Every row of a section is as wide as its name says.
use Prim.Native.Nat.{suc}
use mathlib.Core.Path.{◌≡◌, refl, ap}
use mathlib.Core.List.{List, ◌++◌}
use native.Mathlib.Omega.{arith}
use lib.ListN.{length, length-append}
use Rattle.types.specs.Numbers.{Id}
use Rattle.types.specs.declared.Place.{Place}
use Rattle.types.specs.declared.Place.TheVariants.{Pooled, Seated, Observing, Short, Other}
use Rattle.rules.specs.Table.{Entry}
use Rattle.rules.specs.Board.{Settings, Boundary, Rotation, Seat, Reshape, Board, most_machines, most_committees, most_members, most_bounds, most_rotations, most_reshapes, most_seats, most_half}
use Rattle.rules.specs.Snapshot.{settings_words, place_words, machine_words, boundary_words, rotation_words, seat_words, reshape_words, id_words}
use Rattle.tables.specs.Rows.{id_table}
use Rattle.tables.proofs.Tables.{length_pad, table_length}
use Rattle.board.specs.Layout.{machine_width, committee_width, boundary_width, rotation_width, seat_width, seats_at, reshape_width, machines_at, board_size, committee_row, seat_table, reshape_head, reshape_row, settings_table, encode}

place_wide : (p : Place) → length (place_words p) ≡ 4
unfolding place_words
place_wide Pooled = refl
place_wide (Seated s r e) = refl
place_wide (Observing s e) = refl
place_wide Short = refl
place_wide (Other m) = refl

pub machine_wide : (e : Entry Place) → length (machine_words e) ≡ machine_width
unfolding machine_words
machine_wide e = ap suc (place_wide e.val)

pub id_wide : (x : Id) → length (id_words x) ≡ 1
unfolding id_words
id_wide x = refl

pub committee_wide : (e : Entry (List Id)) → length (committee_row e) ≡ committee_width
unfolding committee_row
committee_wide e = ap suc (table_length id_words 1 most_members e.val)

pub boundary_wide : (e : Entry Boundary) → length (boundary_words e) ≡ boundary_width
unfolding boundary_words
boundary_wide e = refl

pub rotation_wide : (r : Rotation) → length (rotation_words r) ≡ rotation_width
unfolding rotation_words
rotation_wide r = refl

pub seat_wide : (e : Entry Seat) → length (seat_words e) ≡ seat_width
unfolding seat_words
seat_wide e = refl

pub head_wide : (e : Entry Reshape) → length (reshape_head e) ≡ seats_at
unfolding reshape_head reshape_words
head_wide e = refl

pub reshape_parts_lem : (e : Entry Reshape) → reshape_row e ≡ reshape_head e ++ (seat_table e.val.seats ++ (id_table most_half e.val.left ++ id_table most_half e.val.right))
unfolding reshape_row
reshape_parts_lem e = refl

pub reshape_wide : (e : Entry Reshape) → length (reshape_row e) ≡ reshape_width
unfolding reshape_row
reshape_wide e =
    simp length-append
    (omega (arith, head_wide e, table_length seat_words seat_width most_seats e.val.seats, table_length id_words 1 most_half e.val.left, table_length id_words 1 most_half e.val.right))

pub settings_wide : (s : Settings) → length (settings_table s) ≡ machines_at
unfolding settings_table
settings_wide s = length_pad machines_at (settings_words s)

-- 5,861 words
pub board_wide : (b : Board) → length (encode b) ≡ board_size
unfolding encode
board_wide b =
    simp length-append
    (omega (
      arith,
      settings_wide b.settings,
      table_length machine_words machine_width most_machines b.machines,
      table_length committee_row committee_width most_committees b.committees,
      table_length boundary_words boundary_width most_bounds b.bounds,
      table_length rotation_words rotation_width most_rotations b.rotations,
      table_length reshape_row reshape_width most_reshapes b.reshapes,
    ))
