use Prim.Native.Nat.{◌+◌}
use Rattle.packing.proofs.Sums.{summed, fits_first, fits_second, fits_third}
use Rattle.packing.proofs.packed_size.Goals as goal

pub returns : goal.returns
returns c = summed c.args.t.now c.requires _ _ _ c.flat_size-m.ensures c.rows_size-c.ensures c.size_from_bounds-s.ensures

pub overflow_add-result : goal.overflow_add-result
overflow_add-result c = fits_first (7 + c.flat_size-m.result) c.rows_size-c.result c.size_from_bounds-s.result (returns c).1

pub overflow_add-result-2 : goal.overflow_add-result-2
overflow_add-result-2 c = fits_second (7 + c.flat_size-m.result) c.rows_size-c.result c.size_from_bounds-s.result (returns c).1

pub overflow_add-result-3 : goal.overflow_add-result-3
overflow_add-result-3 c = fits_third (7 + c.flat_size-m.result) c.rows_size-c.result c.size_from_bounds-s.result (returns c).1
