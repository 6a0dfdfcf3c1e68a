-- A snapshot's words read from a place on: what stands there, and where the next begins. Nothing here is to be believed: proofs/Boards.antt makes a board of it.
use Rattle.std.specs.Prelude.{ℕ, ◌+◌, ◌≡◌, List, ◌++◌, ◌⊎◌, Bool, true, length, drop, Option, Some, IfSome}
use Rattle.rules.specs.Board.{Settings, most_machines, most_committees, most_bounds, most_rotations, most_reshapes}
use Rattle.rules.specs.WellFormed.{key_before, good_list, good_settings, good_machine, good_committee, good_boundary, good_rotation, good_reshape, rotation_before}
use Rattle.rules.specs.Snapshot.{section, settings_words}
use Rattle.row_tests.specs.declared.RowKind.{RowKind}
use Rattle.row_tests.specs.declared.RowKind.TheVariants.{Machines, Committees, Boundaries, Rotations, Reshapes}
use Rattle.word_tests.specs.Tests.{rises}
use Rattle.row_tests.specs.Rows.{in_pairs}
use Rattle.unpacking.specs.Unpacked.{RowOf, full_row, snap_row}

-- ---- rows

abbrev pub good_of : (k : RowKind) → RowOf k → Bool
good_of Machines = good_machine
good_of Committees = good_committee
good_of Boundaries = good_boundary
good_of Rotations = good_rotation
good_of Reshapes = good_reshape

abbrev pub before_of : (k : RowKind) → RowOf k → RowOf k → Bool
before_of Machines = key_before
before_of Committees = key_before
before_of Boundaries = key_before
before_of Rotations = rotation_before
before_of Reshapes = key_before

-- a good row from `at` up to e; unless it is the last, it is below the words there
pub record RowAt (k : RowKind) (last : Bool) (ws : List ℕ) (at e : ℕ) : Type 0 where
  pub row : RowOf k
  pub good : good_of k row ≡ true
  pub words : drop at ws ≡ snap_row k row ++ drop e ws
  pub next : e ≡ at + length (snap_row k row)
  pub order : (last ≡ true) ⊎ (rises (in_pairs k) (full_row k row) (drop e ws) ≡ true)

-- r is where it ends, if there is one
pub record TellsRow (k : RowKind) (last : Bool) (ws : List ℕ) (at : ℕ) (r : Option ℕ) : Type 0 where
  pub yes : IfSome r (RowAt k last ws at)
  pub held : (e : ℕ) → RowAt k last ws at e → r ≡ Some e

-- ---- sections

-- a good section from `at` up to e
pub record SectionAt (k : RowKind) (cap : ℕ) (ws : List ℕ) (at e : ℕ) : Type 0 where
  pub rows : List (RowOf k)
  pub good : good_list cap (good_of k) (before_of k) rows ≡ true
  pub words : drop at ws ≡ section (snap_row k) rows ++ drop e ws
  pub next : e ≡ at + length (section (snap_row k) rows)

-- r is where it ends, if there is one
pub record TellsSection (k : RowKind) (cap : ℕ) (ws : List ℕ) (at : ℕ) (r : Option ℕ) : Type 0 where
  pub yes : IfSome r (SectionAt k cap ws at)
  pub held : (e : ℕ) → SectionAt k cap ws at e → r ≡ Some e

-- the sections from `at` up to e, one after another
pub record SectionsAt (ws : List ℕ) (at e : ℕ) : Type 0 where
  pub committees_at : ℕ
  pub bounds_at : ℕ
  pub rotations_at : ℕ
  pub reshapes_at : ℕ
  pub machines : SectionAt Machines most_machines ws at committees_at
  pub committees : SectionAt Committees most_committees ws committees_at bounds_at
  pub bounds : SectionAt Boundaries most_bounds ws bounds_at rotations_at
  pub rotations : SectionAt Rotations most_rotations ws rotations_at reshapes_at
  pub reshapes : SectionAt Reshapes most_reshapes ws reshapes_at e

-- r is where they end, if they are all there
pub record TellsSections (ws : List ℕ) (at : ℕ) (r : Option ℕ) : Type 0 where
  pub yes : IfSome r (SectionsAt ws at)
  pub held : (e : ℕ) → SectionsAt ws at e → r ≡ Some e

-- ---- the settings

pub record HeadAt (ws : List ℕ) : Type 0 where
  pub settings : Settings
  pub good : good_settings settings ≡ true
  pub words : ws ≡ settings_words settings ++ drop 7 ws

pub record TellsHead (ws : List ℕ) (r : Bool) : Type 0 where
  pub yes : r ≡ true → HeadAt ws
  pub held : HeadAt ws → r ≡ true
