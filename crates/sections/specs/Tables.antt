-- The tables of a board: how wide their rows are, and where they stand in the words.
use Rattle.std.specs.Prelude.{ℕ, zero, suc, ◌+◌, ◌*◌, ◌-◌, cond, List, [], ◌∷◌, eqb, ltb, leb, length, take, drop, get_or, Option, Some, None}
use Rattle.rules.specs.Lists.{bit_of}
use Rattle.rules.specs.Board.{most_committees, most_members, most_reshapes, most_seats, most_half}
use Rattle.board.specs.Layout.{machine_width, committee_width, boundary_width, rotation_width, reshape_width, seat_width, members_at, seats_at, left_at, right_at, machines_at, committees_at, bounds_at, rotations_at, reshapes_at, board_size}
use Rattle.sections.specs.declared.Span.{Span}
use Rattle.sections.specs.declared.Section.{Section}
use Rattle.sections.specs.declared.Section.TheVariants.{Machines, Committees, Boundaries, Rotations, Reshapes, Members, Seats, Left, Right, Settings}

-- how wide its rows are
unfoldable pub width_of : Section → ℕ
width_of Machines = machine_width
width_of Committees = committee_width
width_of Boundaries = boundary_width
width_of Rotations = rotation_width
width_of Reshapes = reshape_width
width_of Members = 1
width_of Seats = seat_width
width_of Left = 1
width_of Right = 1
width_of Settings = 1

abbrev pub span : ℕ → ℕ → Span
span a n = record { at = a; size = n }

-- the members of committee j, and a table of reshape j that starts at a of its row; none past the last row
unfoldable pub members_span : ℕ → Option Span
members_span j = cond (ltb j most_committees) (Some (span (committees_at + 1 + j * committee_width + members_at) (1 + most_members))) None

unfoldable pub reshape_span : ℕ → ℕ → ℕ → Option Span
reshape_span j a n = cond (ltb j most_reshapes) (Some (span (reshapes_at + 1 + j * reshape_width + a) n)) None

unfoldable pub span_of : Section → ℕ → Option Span
span_of Machines j = Some (span machines_at (committees_at - machines_at))
span_of Committees j = Some (span committees_at (bounds_at - committees_at))
span_of Boundaries j = Some (span bounds_at (rotations_at - bounds_at))
span_of Rotations j = Some (span rotations_at (reshapes_at - rotations_at))
span_of Reshapes j = Some (span reshapes_at (board_size - reshapes_at))
span_of Members j = members_span j
span_of Seats j = reshape_span j seats_at (1 + most_seats * seat_width)
span_of Left j = reshape_span j left_at (1 + most_half)
span_of Right j = reshape_span j right_at (1 + most_half)
span_of Settings j = Some (span 0 machines_at)

-- the words of a span; no words of none
unfoldable pub words_at : Option Span → List ℕ → List ℕ
words_at None ws = []
words_at (Some s) ws = take s.size (drop s.at ws)

abbrev pub table_in : Section → ℕ → List ℕ → List ℕ
table_in which j ws = words_at (span_of which j) ws

-- ---- by number, from 0 on: of a number that is no table's, rows of one word and no words

unfoldable pub section_of : ℕ → Option Section
section_of n = get_or (Some Machines ∷ Some Committees ∷ Some Boundaries ∷ Some Rotations ∷ Some Reshapes ∷ Some Members ∷ Some Seats ∷ Some Left ∷ Some Right ∷ Some Settings ∷ []) n None

unfoldable pub width_with : Option Section → ℕ
width_with None = 1
width_with (Some s) = width_of s

abbrev pub width_at : ℕ → ℕ
width_at n = width_with (section_of n)

unfoldable pub table_with : Option Section → ℕ → List ℕ → List ℕ
table_with None j ws = []
table_with (Some s) j ws = table_in s j ws

abbrev pub table_at : ℕ → ℕ → List ℕ → List ℕ
table_at n = table_with (section_of n)

-- row i of a table, and a table's ids: nothing past its room
unfoldable pub row_in : ℕ → ℕ → List ℕ → List ℕ
row_in w i t = cond (leb (1 + i * w + w) (length t)) (take w (drop (1 + i * w) t)) []

unfoldable pub ids_in : List ℕ → List ℕ
ids_in t = cond (ltb (get_or t 0 0) (length t)) (take (get_or t 0 0) (drop 1 t)) []

-- of the first n rows, how many have x as their word k
unfoldable pub count_in : ℕ → ℕ → ℕ → List ℕ → ℕ → ℕ
count_in w k x t zero = 0
count_in w k x t (suc n) = count_in w k x t n + bit_of (eqb (get_or (row_in w n t) k 0) x)
