-- What pass one needs of a row, for each kind.
use Prim.Native.Nat.{ℕ, ◌≤◌}
use mathlib.Core.Path.{◌≡◌, refl, sym}
use mathlib.Core.List.{List, ◌++◌}
use mathlib.Core.Bool.{true, or-false}
use native.Mathlib.Omega.{arith}
use lib.ListN.{length, take}
use lib.Seq.{length-take-le}
use Rattle.rules.specs.WellFormed.{rotation_before}
use Rattle.rules.specs.Snapshot.{machine_words, committee_words, boundary_words, rotation_words, reshape_words}
use Rattle.board.specs.Layout.{reshape_width, committee_row, reshape_head, reshape_row}
use Rattle.board.proofs.One.{committee_room, reshape_room}
use Rattle.row_tests.specs.declared.RowKind.{RowKind}
use Rattle.row_tests.specs.declared.RowKind.TheVariants.{Machines, Committees, Boundaries, Rotations, Reshapes}
use Rattle.word_tests.specs.Tests.{all_pass, any_pass, rises}
use Rattle.row_tests.specs.Rows.{row_ok, in_pairs, width_of}
use Rattle.word_tests.proofs.Tests.{and_is, or_is}
use Rattle.word_tests.proofs.Decides.{Decides}
use Rattle.row_tests.proofs.Rows.{machine_decides, committee_decides, boundary_decides, rotation_decides}
use Rattle.row_tests.proofs.Reshapes.{reshape_decides}
use Rattle.unpacking.specs.Unpacked.{RowOf, full_row, snap_row, roomy_row}
use Rattle.reading.specs.Stream.{good_of, before_of}

pub row_decides : (k : RowKind) → Decides (full_row k) (good_of k) (width_of k) (row_ok k)
row_decides Machines = machine_decides
row_decides Committees = committee_decides
row_decides Boundaries = boundary_decides
row_decides Rotations = rotation_decides
row_decides Reshapes = reshape_decides

pub row_roomy : (k : RowKind) (e : RowOf k) → good_of k e ≡ true → roomy_row k e ≡ true
row_roomy Machines e g = refl
row_roomy Committees e g = committee_room e g
row_roomy Boundaries e g = refl
row_roomy Rotations e g = refl
row_roomy Reshapes e g = reshape_room e g

-- a row's first words say the order
pub row_says : (k : RowKind) (x y : RowOf k) (b : List ℕ) → rises (in_pairs k) (full_row k x) (snap_row k y ++ b) ≡ before_of k x y
unfolding machine_words committee_words committee_row boundary_words rotation_words reshape_words reshape_head reshape_row rotation_before all_pass any_pass
row_says Machines x y b = or-false _
row_says Committees x y b = or-false _
row_says Boundaries x y b = or-false _
row_says Rotations x y b = sym (rw and_is (or_is _ _))
row_says Reshapes x y b = or-false _

width_most : (k : RowKind) → width_of k ≤ reshape_width
width_most Machines = omega arith
width_most Committees = omega arith
width_most Boundaries = omega arith
width_most Rotations = omega arith
width_most Reshapes = omega arith

-- scratch for the widest row has room for each
module _ (k : RowKind) (w : ℕ) (row : List ℕ) (e : w ≡ width_of k) (l : length row ≡ reshape_width) where
  pub row_room : w ≤ length row
  row_room = omega (arith, width_most k)

  pub row_lent : length (take w row) ≡ w
  row_lent = length-take-le w row row_room
