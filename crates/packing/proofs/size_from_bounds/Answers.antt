use native.Mathlib.Nat.{le_trans}
use lib.Dec.{lit≤}
use Rattle.packing.proofs.Sums.{bounds_summed, fits_second, fits_third}
use Rattle.packing.proofs.size_from_bounds.Goals as goal

pub returns : goal.returns
returns c = bounds_summed c.args.t.now c.requires _ _ _ c.flat_size-b.ensures c.flat_size-o.ensures c.rows_size-r.ensures

pub overflow_add-result : goal.overflow_add-result
overflow_add-result c = fits_second c.flat_size-b.result c.flat_size-o.result c.rows_size-r.result (le_trans (returns c).1 (lit≤ tt))

pub overflow_add-result-2 : goal.overflow_add-result-2
overflow_add-result-2 c = fits_third c.flat_size-b.result c.flat_size-o.result c.rows_size-r.result (le_trans (returns c).1 (lit≤ tt))
