use native.Mathlib.Omega.{arith}
use Rattle.std.proofs.lemmas.Result.{err_from_is_err_and}
use Rattle.rules.specs.Draws.{and_then}
use Rattle.rules.specs.Moves.{pool_of}
use Rattle.sampling.proofs.Shuffles.{drawn_reads}
use Rattle.pool.proofs.Draws.{from_none, from_some, from_failed}
use Rattle.pool.proofs.draw_one.Goals as goal

pub returns-then-n-eq0-clause-tells : goal.returns-then-n-eq0-clause-tells
returns-then-n-eq0-clause-tells c = λ b h. from_none _ (pool_of b) _ (c.pool_size-n.ensures.1 b h) c.if-n-eq0.true

pub returns-in_err-k-clause-tells : goal.returns-in_err-k-clause-tells
returns-in_err-k-clause-tells c =
    let p = err_from_is_err_and c.from_residual.result c.from_residual.ensures.1 in
    rw (p.1, p.2) (λ b h. from_failed _ (pool_of b) _ (c.pool_size-n.ensures.1 b h) c.if-n-eq0.false _ c.in_err-k.ensures)

pub returns-clause-tells : goal.returns-clause-tells
unfolding and_then
returns-clause-tells c = λ b h.
    let n = c.pool_size-n.ensures.1 b h in
    let k = c.pooled_at_rank-i.ensures.1 b h (omega (arith, n, (drawn_reads _ _ _ _ c.in_ok-k.ensures.drew).fits, c.if-n-eq0.false)) in
    record {
      within = k.within;
      read = c.in_ok-k.ensures.within;
      drawn = rw k.id (from_some _ (pool_of b) _ n c.if-n-eq0.false _ c.in_ok-k.ensures.drew);
    }
