use lib.ListN.{take}
use Rattle.std.proofs.lemmas.Result.{err_from_is_err_and}
use Rattle.sampling.proofs.Failing.{then_fails}
use Rattle.keepers.proofs.Drawing.{share_filled}
use Rattle.keepers.proofs.fill_share.Goals as goal

pub returns-in_err-left-clause-tells : goal.returns-in_err-left-clause-tells
returns-in_err-left-clause-tells c =
    let p = err_from_is_err_and c.from_residual.result c.from_residual.ensures.1 in
    rw (p.1, p.2) (then_fails _ _ _ c.in_err-left.ensures.tells)

pub returns-clause-tells : goal.returns-clause-tells
returns-clause-tells c = let a = c.args in share_filled _ a.share (take a.m a.out.now) _ _ _ _ c.put_behind-count.ensures.2 _ c.in_ok-left.ensures.tells
