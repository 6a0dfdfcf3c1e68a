use Rattle.shifts.proofs.Parts.{between_length}
use Rattle.packing.specs.Packed.{between}
use native.Mathlib.Omega.{arith}
use Rattle.packing.proofs.Sizes.{flat_most, committee_length}
use Rattle.packing.proofs.committee_size.Goals as goal

pub overflow_add-result : goal.overflow_add-result
overflow_add-result c = let t = c.args.t.now in omega (arith, c.flat_size.ensures, flat_most 1 96 (between 1 98 t) (between_length 1 98 t (omega arith)))

pub returns : goal.returns
returns c = let t = c.args.t.now in omega (arith, c.flat_size.ensures, committee_length t (omega arith))
