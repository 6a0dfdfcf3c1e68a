-- A row of a snapshot, and the same row in full width.
use Rattle.std.specs.Prelude.{ℕ, ◌+◌, ◌≤◌, ◌≡◌, List, ◌++◌, Bool, true, false, length, take, drop, Option, Some, IfSome}
use Rattle.types.specs.Numbers.{Id}
use Rattle.types.specs.declared.Place.{Place}
use Rattle.rules.specs.Lists.{every}
use Rattle.rules.specs.Table.{Entry}
use Rattle.rules.specs.Board.{Settings, Boundary, Rotation, Reshape, Board, most_machines, most_committees, most_bounds, most_rotations, most_reshapes}
use Rattle.rules.specs.WellFormed.{well_formed}
use Rattle.rules.specs.Snapshot.{snapshot_of, words_of, rows_words, section, settings_words, machine_words, committee_words, boundary_words, rotation_words, reshape_words}
use Rattle.tables.specs.Rows.{table}
use Rattle.board.specs.Layout.{bounds_at, board_size, committee_row, reshape_row, settings_table, boundary_table, rotation_table, reshape_table, encode}
use Rattle.board.specs.Held.{roomy_committee, roomy_reshape, Fits}
use Rattle.row_tests.specs.declared.RowKind.{RowKind}
use Rattle.row_tests.specs.declared.RowKind.TheVariants.{Machines, Committees, Boundaries, Rotations, Reshapes}
use Rattle.row_tests.specs.Rows.{width_of}
use Rattle.packing.specs.Packed.{row_of}

abbrev pub RowOf : RowKind → Type 0
RowOf Machines = Entry Place
RowOf Committees = Entry (List Id)
RowOf Boundaries = Entry Boundary
RowOf Rotations = Rotation
RowOf Reshapes = Entry Reshape

-- its words in the board
abbrev pub full_row : (k : RowKind) → RowOf k → List ℕ
full_row Machines = machine_words
full_row Committees = committee_row
full_row Boundaries = boundary_words
full_row Rotations = rotation_words
full_row Reshapes = reshape_row

-- its words in a snapshot
abbrev pub snap_row : (k : RowKind) → RowOf k → List ℕ
snap_row Machines = machine_words
snap_row Committees = committee_words
snap_row Boundaries = boundary_words
snap_row Rotations = rotation_words
snap_row Reshapes = reshape_words

-- its lists are within their room
abbrev pub roomy_row : (k : RowKind) → RowOf k → Bool
roomy_row Machines e = true
roomy_row Committees e = roomy_committee e
roomy_row Boundaries e = true
roomy_row Rotations e = true
roomy_row Reshapes e = roomy_reshape e

abbrev pub most_of : RowKind → ℕ
most_of Machines = most_machines
most_of Committees = most_committees
most_of Boundaries = most_bounds
most_of Rotations = most_rotations
most_of Reshapes = most_reshapes

-- a row without lists: its words are the same in both
abbrev pub is_plain : RowKind → Bool
is_plain Machines = true
is_plain Committees = false
is_plain Boundaries = true
is_plain Rotations = true
is_plain Reshapes = false

-- words of a roomy row
pub record GoodRow (k : RowKind) (v : List ℕ) : Type 0 where
  pub row : RowOf k
  pub roomy : roomy_row k row ≡ true
  pub words : v ≡ full_row k row

-- what unpacking a row at word `at` of the words ws leaves in t, and its answer r: the next row's place, or none where there is no row
pub record RowRead (k : RowKind) (ws t : List ℕ) (at : ℕ) (r : Option ℕ) : Type 0 where
  pub read : IfSome r (λ e. (at ≤ e) × (e ≤ length ws) × (drop at ws ≡ row_of k t ++ drop e ws))
  pub whole : (e : RowOf k) (rest : List ℕ) → roomy_row k e ≡ true → drop at ws ≡ snap_row k e ++ rest → (t ≡ full_row k e) × (r ≡ Some (at + length (snap_row k e)))

-- what unpacking rows at word `at` leaves in t, and its answer r: the place after them, or none where they are not there
pub record RowsRead (k : RowKind) (n : ℕ) (ws t : List ℕ) (at : ℕ) (r : Option ℕ) : Type 0 where
  pub whole : (xs : List (RowOf k)) (rest : List ℕ) → length xs ≡ n → every (roomy_row k) xs ≡ true → drop at ws ≡ rows_words (snap_row k) xs ++ rest
      → (t ≡ rows_words (full_row k) xs) × (r ≡ Some (at + length (rows_words (snap_row k) xs)))

-- the same of a section, in a table with room for cap rows
pub record TableRead (k : RowKind) (cap : ℕ) (ws t : List ℕ) (at : ℕ) (r : Option ℕ) : Type 0 where
  pub whole : (xs : List (RowOf k)) (rest : List ℕ) → length xs ≤ cap → every (roomy_row k) xs ≡ true → drop at ws ≡ section (snap_row k) xs ++ rest
      → (t ≡ table (full_row k) (width_of k) cap xs) × (r ≡ Some (at + length (section (snap_row k) xs)))

-- the same of the settings, which stand first
pub record SettingsRead (ws t : List ℕ) (r : Option ℕ) : Type 0 where
  pub whole : (s : Settings) (rest : List ℕ) → ws ≡ settings_words s ++ rest → (t ≡ settings_table s) × (r ≡ Some (length (settings_words s)))

-- what reading the tables from the boundaries on at word `at` leaves of a board's words u, and its answer r: the place after them
pub record FromBoundsRead (ws u t : List ℕ) (at : ℕ) (r : Option ℕ) : Type 0 where
  pub whole : (b : Board) → Fits b → drop at ws ≡ section boundary_words b.bounds ++ (section rotation_words b.rotations ++ section reshape_words b.reshapes)
      → (t ≡ take bounds_at u ++ ((boundary_table b.bounds ++ (rotation_table b.rotations ++ reshape_table b.reshapes)) ++ drop board_size u)) × (r ≡ Some (at + length (section boundary_words b.bounds ++ (section rotation_words b.rotations ++ section reshape_words b.reshapes))))

-- what reading a board's snapshot leaves of the words out, and its answer r: where its words end
pub record BoardRead (bytes out t : List ℕ) (r : Option ℕ) : Type 0 where
  pub whole : (b : Board) → bytes ≡ snapshot_of b → well_formed b ≡ true → (t ≡ encode b ++ drop board_size out) × (r ≡ Some (length (words_of b)))
