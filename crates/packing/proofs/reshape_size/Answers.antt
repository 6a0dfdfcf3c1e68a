use native.Mathlib.Omega.{arith}
use Rattle.shifts.proofs.Parts.{between_length}
use Rattle.packing.specs.Packed.{between}
use Rattle.packing.proofs.Sizes.{flat_most, reshape_length}
use Rattle.packing.proofs.reshape_size.Goals as goal

pub overflow_add-result : goal.overflow_add-result
overflow_add-result c = let t = c.args.t.now in omega (arith, c.flat_size.ensures, flat_most 3 32 (between 9 106 t) (between_length 9 106 t (omega arith)))

pub overflow_add-result-2 : goal.overflow_add-result-2
overflow_add-result-2 c = let t = c.args.t.now in omega (arith, c.flat_size.ensures, c.flat_size-2.ensures, flat_most 3 32 (between 9 106 t) (between_length 9 106 t (omega arith)), flat_most 1 48 (between 106 155 t) (between_length 106 155 t (omega arith)))

pub overflow_add-result-3 : goal.overflow_add-result-3
overflow_add-result-3 c = let t = c.args.t.now in omega (arith, c.flat_size.ensures, c.flat_size-2.ensures, c.flat_size-3.ensures, flat_most 3 32 (between 9 106 t) (between_length 9 106 t (omega arith)), flat_most 1 48 (between 106 155 t) (between_length 106 155 t (omega arith)), flat_most 1 48 (between 155 204 t) (between_length 155 204 t (omega arith)))

pub returns : goal.returns
returns c = let t = c.args.t.now in omega (arith, c.flat_size.ensures, c.flat_size-2.ensures, c.flat_size-3.ensures, reshape_length t (omega arith))
