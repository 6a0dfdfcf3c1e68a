use mathlib.Core.Path.{refl}
use native.Mathlib.Omega.{arith}
use Rattle.row_tests.specs.declared.RowKind.TheVariants.{Machines, Boundaries, Rotations}
use Rattle.board.proofs.Widths.{machine_wide, boundary_wide, rotation_wide}
use Rattle.unpacking.proofs.Rows.{of_kind, flat_read, row_read}
use Rattle.unpacking.proofs.unpack_row.Goals as goal

pub returns-in-Machines : goal.returns-in-Machines
returns-in-Machines c = λ ws h. row_read (flat_read Machines c.args.out.now c.in-Machines.is c.requires (omega arith) (λ v. refl) machine_wide (c.unpack_words.ensures ws h))

pub returns-in-Committees : goal.returns-in-Committees
returns-in-Committees c = λ ws h. row_read (of_kind c.in-Committees.is (c.unpack_committee.ensures ws h))

pub returns-in-Boundaries : goal.returns-in-Boundaries
returns-in-Boundaries c = λ ws h. row_read (flat_read Boundaries c.args.out.now c.in-Boundaries.is c.requires (omega arith) (λ v. refl) boundary_wide (c.unpack_words-in-Boundaries.ensures ws h))

pub returns-in-Rotations : goal.returns-in-Rotations
returns-in-Rotations c = λ ws h. row_read (flat_read Rotations c.args.out.now c.in-Rotations.is c.requires (omega arith) (λ v. refl) rotation_wide (c.unpack_words-in-Rotations.ensures ws h))

pub returns-in-Reshapes : goal.returns-in-Reshapes
returns-in-Reshapes c = λ ws h. row_read (of_kind c.in-Reshapes.is (c.unpack_reshape.ensures ws h))
