use native.Mathlib.Omega.{arith}
use Rattle.unpacking.proofs.Sections.{unroll_start, unroll_lent, unroll_on, unroll_end, unrolled_at}
use Rattle.unpacking.proofs.unpack_each.Goals as goal

pub loop-i-init : goal.loop-i-init
loop-i-init c = let a = c.args in unrolled_at (omega arith) (omega arith) (unroll_start a.k a.w a.n a.bytes.now a.at a.out.now c.requires.0 c.requires.1)

pub unpack_row-requires : goal.unpack_row-requires
unpack_row-requires c = unroll_lent c.loop-i.invariant (omega arith)

pub loop-i-preserved : goal.loop-i-preserved
loop-i-preserved c = rw c.unwrap_or-next.ensures (unrolled_at (omega arith) (omega arith) (unroll_on c.loop-i.invariant _ _ (omega arith) c.unpack_row.auto.out c.unpack_row.ensures))

pub returns : goal.returns
returns c = unroll_end c.loop-i.invariant (omega arith)
