use native.Mathlib.Omega.{arith}
use Rattle.reading.proofs.Streams.{count_none, count_start, last_is, section_over, section_fails, section_more}
use Rattle.reading.proofs.section_end.Goals as goal

pub returns-in_err-n : goal.returns-in_err-n
returns-in_err-n g c = λ ws h. rw c.from_residual.ensures (count_none _ _ ws _ (c.in_err-n.ensures.read ws h))

pub loop-after-init : goal.loop-after-init
loop-after-init g c = λ ws h. count_start _ _ ws _ _ (c.in_ok-n.ensures.read ws h)

pub returns-in_err-next : goal.returns-in_err-next
returns-in_err-next g c = λ ws h.
    rw c.from_residual-in_err-next.ensures (section_fails _ _ ws _ _ _ (c.loop-after.invariant ws h) _ (omega arith) (last_is _ _ (omega arith)) (c.in_err-next.ensures ws h))

pub loop-after-preserved : goal.loop-after-preserved
loop-after-preserved g c = λ ws h. section_more _ _ ws _ _ _ (c.loop-after.invariant ws h) _ (omega arith) (last_is _ _ (omega arith)) _ (c.in_ok-next.ensures ws h)

pub returns : goal.returns
returns g c = λ ws h. section_over _ _ ws _ _ _ (c.loop-after.invariant ws h) (omega arith)
