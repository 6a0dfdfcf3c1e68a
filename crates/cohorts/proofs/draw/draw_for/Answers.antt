use mathlib.Core.Path.{refl}
use native.Mathlib.Omega.{arith}
use Rattle.rules.specs.Moves.{pool_of}
use Rattle.cohorts.proofs.Draws.{counted, pool_small}
use Rattle.cohorts.proofs.draw.draw_for.Goals as goal

pub returns-then-n-size : goal.returns-then-n-size
returns-then-n-size c = λ b h ok y l e a.
    let len = counted c.pool_ids-n.new.out (pool_of b) c.pool_ids-n.result (omega (arith, c.pool_ids-n.ensures.0, c.pool_ids-n.auto.out)) (c.pool_ids-n.ensures.1 b h) in
    pool_small b ok _ _ _ _ y _ l e a (omega (arith, len, c.cohort_size-size.ensures.1 b h ok, c.if-n-size.true)) h refl
