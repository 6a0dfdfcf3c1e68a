use native.Mathlib.Omega.{arith}
use Rattle.packing.proofs.Nesteds.{count_start, count_turn, count_end, counted_at}
use Rattle.packing.proofs.rows_size.Goals as goal

pub loop-i-init : goal.loop-i-init
loop-i-init c = let a = c.args in
    counted_at (omega arith) (omega arith) (count_start a.k a.cap a.t.now c.width-w.result c.count-n.result c.requires c.width-w.ensures c.count-n.ensures)

pub overflow_add-size : goal.overflow_add-size
overflow_add-size c = let u = count_turn c.loop-i.invariant c.row_size-size.result (omega arith) c.row_size-size.ensures in omega (arith, u.below, u.within)

pub loop-i-preserved : goal.loop-i-preserved
loop-i-preserved c = counted_at (omega arith) (omega arith) (count_turn c.loop-i.invariant c.row_size-size.result (omega arith) c.row_size-size.ensures)

pub returns : goal.returns
returns c = count_end c.loop-i.invariant (omega arith)
