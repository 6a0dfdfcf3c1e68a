-- The test of a row's words, by its kind.
use Rattle.std.specs.Prelude.{ℕ, List, [], ◌∷◌, Bool, true, false, leb, eqb}
use Rattle.types.specs.Shards.{parent_of}
use Rattle.rules.specs.Board.{most_members, most_seats, most_half, last_stamp, last_shard}
use Rattle.rules.specs.WellFormed.{within, is_shard, is_target, is_stamp}
use Rattle.board.specs.Layout.{machine_width, members_at, committee_width, boundary_width, rotation_width, seat_width, seats_at, left_at, right_at, reshape_width}
use Rattle.word_tests.specs.Tests.{all_pass, any_pass, at, between, rises, table_ok, ids_ok}
use Rattle.row_tests.specs.declared.RowKind.{RowKind}
use Rattle.row_tests.specs.declared.RowKind.TheVariants.{Machines, Committees, Boundaries, Rotations, Reshapes}

-- ---- rows

-- a place's four words: of this code, its mark from low to high, its ready and its stamp at most these
unfoldable pub case_ok : ℕ → ℕ → ℕ → ℕ → ℕ → ℕ → ℕ → ℕ → ℕ → Bool
case_ok code mark ready stamp k low high r s = all_pass (eqb code k ∷ within low high mark ∷ leb ready r ∷ leb stamp s ∷ [])

-- pooled, seated, observing, short, other: the words that a place does not use are 0
abbrev pub place_cases : ℕ → ℕ → ℕ → ℕ → List Bool
place_cases c m r s =
    case_ok c m r s 0 0 0 0 0
    ∷ case_ok c m r s 1 1 last_shard 1 last_stamp
    ∷ case_ok c m r s 2 1 last_shard 0 last_stamp
    ∷ case_ok c m r s 3 0 0 0 0
    ∷ case_ok c m r s 4 1 255 0 0
    ∷ []

unfoldable pub machine_ok : List ℕ → Bool
machine_ok t = any_pass (place_cases (at t 1) (at t 2) (at t 3) (at t 4))

unfoldable pub committee_ok : List ℕ → Bool
committee_ok t = all_pass (is_shard (at t 0) ∷ ids_ok most_members (between members_at committee_width t) ∷ [])

-- a flag and a value: a value under flag 0 is 0
unfoldable pub option_ok : ℕ → ℕ → Bool
option_ok f v = any_pass (all_pass (eqb f 0 ∷ eqb v 0 ∷ []) ∷ all_pass (eqb f 1 ∷ is_stamp v ∷ []) ∷ [])

unfoldable pub boundary_ok : List ℕ → Bool
boundary_ok t = all_pass (is_shard (at t 0) ∷ is_stamp (at t 2) ∷ is_stamp (at t 3) ∷ option_ok (at t 4) (at t 5) ∷ option_ok (at t 6) (at t 7) ∷ [])

unfoldable pub rotation_ok : List ℕ → Bool
rotation_ok t = all_pass (is_shard (at t 0) ∷ is_stamp (at t 3) ∷ [])

unfoldable pub seat_ok : ℕ → List ℕ → Bool
seat_ok target t = all_pass (eqb (parent_of (at t 1)) target ∷ leb (at t 2) 1 ∷ [])

abbrev pub seats_ok : ℕ → List ℕ → Bool
seats_ok target = table_ok (seat_ok target) (rises false) seat_width most_seats

-- target, admitted, drain-by and terminal
unfoldable pub epochs_ok : List ℕ → Bool
epochs_ok t = all_pass (is_target (at t 0) ∷ is_stamp (at t 2) ∷ option_ok (at t 3) (at t 4) ∷ option_ok (at t 5) (at t 6) ∷ [])

-- kind, quiet left and quiet right, which is at most the kind: 0 for a split
unfoldable pub flags_ok : List ℕ → Bool
flags_ok t = all_pass (leb (at t 1) 1 ∷ leb (at t 7) 1 ∷ leb (at t 8) (at t 1) ∷ [])

-- the words before the seats
abbrev pub reshape_head_ok : List ℕ → Bool
reshape_head_ok t = all_pass (epochs_ok t ∷ flags_ok t ∷ [])

-- a split with a terminal, or both halves empty
unfoldable pub scheduled_ok : ℕ → ℕ → ℕ → ℕ → Bool
scheduled_ok kind flag left right = any_pass (all_pass (eqb kind 0 ∷ eqb flag 1 ∷ []) ∷ all_pass (eqb left 0 ∷ eqb right 0 ∷ []) ∷ [])

unfoldable pub halves_ok : List ℕ → Bool
halves_ok t =
    all_pass
    (ids_ok most_half (between left_at right_at t)
    ∷ ids_ok most_half (between right_at reshape_width t)
    ∷ scheduled_ok (at t 1) (at t 5) (at t left_at) (at t right_at)
    ∷ [])

unfoldable pub reshape_ok : List ℕ → Bool
reshape_ok t = all_pass (epochs_ok t ∷ flags_ok t ∷ seats_ok (at t 0) (between seats_at left_at t) ∷ halves_ok t ∷ [])

-- ---- kinds of rows

abbrev pub row_ok : RowKind → List ℕ → Bool
row_ok Machines = machine_ok
row_ok Committees = committee_ok
row_ok Boundaries = boundary_ok
row_ok Rotations = rotation_ok
row_ok Reshapes = reshape_ok

-- by shard, then victim
abbrev pub in_pairs : RowKind → Bool
in_pairs Machines = false
in_pairs Committees = false
in_pairs Boundaries = false
in_pairs Rotations = true
in_pairs Reshapes = false

abbrev pub width_of : RowKind → ℕ
width_of Machines = machine_width
width_of Committees = committee_width
width_of Boundaries = boundary_width
width_of Rotations = rotation_width
width_of Reshapes = reshape_width

-- a table of any kind of rows
abbrev pub kind_ok : RowKind → ℕ → List ℕ → Bool
kind_ok k = table_ok (row_ok k) (rises (in_pairs k)) (width_of k)
