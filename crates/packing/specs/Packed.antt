-- Lent words without the room past each count: a snapshot's words, where they hold a board.
use Rattle.std.specs.Prelude.{ℕ, zero, suc, ◌+◌, ◌-◌, ◌*◌, min, List, [], ◌++◌, get_or, take, drop}
use Rattle.rules.specs.Board.{most_machines, most_committees, most_members, most_bounds, most_rotations, most_reshapes, most_seats, most_half}
use Rattle.board.specs.Layout.{machine_width, members_at, committee_width, boundary_width, rotation_width, seat_width, seats_at, left_at, right_at, reshape_width, machines_at, committees_at, bounds_at, rotations_at, reshapes_at, board_size}
use Rattle.row_tests.specs.declared.RowKind.{RowKind}
use Rattle.row_tests.specs.declared.RowKind.TheVariants.{Machines, Committees, Boundaries, Rotations, Reshapes}
use Rattle.row_tests.specs.Rows.{width_of}

-- the words from a to e
abbrev pub between : ℕ → ℕ → List ℕ → List ℕ
between a e t = take (e - a) (drop a t)

-- how many rows a table's count names, no more than it has room for
unfoldable pub count_of : ℕ → List ℕ → ℕ
count_of cap t = min (get_or t 0 0) cap

-- a table of rows without lists: the count and as many rows
unfoldable pub flat : ℕ → ℕ → List ℕ → List ℕ
flat w cap t = take (1 + count_of cap t * w) t

-- the words of a row with lists in it
unfoldable pub committee : List ℕ → List ℕ
committee t = take members_at t ++ flat 1 most_members (between members_at committee_width t)

unfoldable pub reshape : List ℕ → List ℕ
reshape t =
    take seats_at t
    ++ (flat seat_width most_seats (between seats_at left_at t) ++ (flat 1 most_half (between left_at right_at t) ++ flat 1 most_half (between right_at reshape_width t)))

-- a row of any kind: one without lists is as it was
abbrev pub row_of : RowKind → List ℕ → List ℕ
row_of Machines t = t
row_of Committees t = committee t
row_of Boundaries t = t
row_of Rotations t = t
row_of Reshapes t = reshape t

unfoldable pub rows_of : RowKind → ℕ → List ℕ → List ℕ
rows_of k zero t = []
rows_of k (suc n) t = row_of k (take (width_of k) t) ++ rows_of k n (drop (width_of k) t)

-- a table of such rows
unfoldable pub nested : RowKind → ℕ → List ℕ → List ℕ
nested k cap t = take 1 t ++ rows_of k (count_of cap t) (drop 1 t)

-- the tables from the boundaries on
unfoldable pub from_bounds : List ℕ → List ℕ
from_bounds t =
    flat boundary_width most_bounds (between bounds_at rotations_at t)
    ++ (flat rotation_width most_rotations (between rotations_at reshapes_at t) ++ nested Reshapes most_reshapes (between reshapes_at board_size t))

-- the settings' count and numbers, then the tables
unfoldable pub packed : List ℕ → List ℕ
packed t =
    take 7 t
    ++ (flat machine_width most_machines (between machines_at committees_at t) ++ (nested Committees most_committees (between committees_at bounds_at t) ++ from_bounds t))
