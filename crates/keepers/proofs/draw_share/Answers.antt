use mathlib.Core.Path.{sym}
use native.Mathlib.Omega.{arith}
use lib.Seq.{length-take-le}
use Rattle.std.proofs.lemmas.Result.{err_from_is_err_and}
use Rattle.sampling.proofs.Failing.{then_fails, then_reads}
use Rattle.keepers.proofs.Drawing.{front_long, front_taken}
use Rattle.keepers.proofs.draw_share.Goals as goal

pub slice_bounds-sort_and_shuffle-end-2 : goal.slice_bounds-sort_and_shuffle-end-2
slice_bounds-sort_and_shuffle-end-2 c = sym (length-take-le _ _ c.requires.1)

pub returns-in_err-left-clause-tells : goal.returns-in_err-left-clause-tells
returns-in_err-left-clause-tells c =
    let p = err_from_is_err_and c.from_residual.result c.from_residual.ensures.1 in
    rw (p.1, p.2) (then_fails _ _ _ c.in_err-left.ensures.tells)

pub fill_share-requires : goal.fill_share-requires
fill_share-requires c =
    let a = c.args in
    let p = c.requires in
    let l = front_long a.m c.sort_and_shuffle.new.ids a.out.now p.1 c.in_ok-left.ensures.len in
    (omega (arith, c.in_ok-left.ensures.tells.within), rw l p.1, rw l p.2)

pub returns-clause-tells : goal.returns-clause-tells
returns-clause-tells c =
    let a = c.args in
    let drawn = front_taken a.m c.sort_and_shuffle.new.ids a.out.now c.requires.1 c.in_ok-left.ensures.len in
    rw (then_reads _ _ _ _ _ c.in_ok-left.ensures.tells) (rw drawn at c.fill_share.ensures.tells)
