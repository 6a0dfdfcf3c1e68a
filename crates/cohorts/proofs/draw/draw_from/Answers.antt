use Prim.Native.Nat.{◌≤◌}
use mathlib.Core.Path.{refl, ap}
use native.Mathlib.Omega.{arith}
use Rattle.std.proofs.lemmas.Result.{err_from_is_err_and}
use lib.ListN.{length}
use Rattle.rules.specs.Board.{size_of}
use Rattle.rules.specs.Moves.{pool_of}
use Rattle.cohorts.proofs.Draws.{awaits_none, draw_fails, good_cohort, drawn_out}
use Rattle.cohorts.proofs.draw.draw_from.Goals as goal

pub returns-in_err-left : goal.returns-in_err-left
returns-in_err-left c = λ b h ok y l e a n p.
    let m : size_of b ≤ length (pool_of b) = omega (arith, n, ap length p, c.requires.4) in
    let s = rw (p, c.start.ensures) at c.in_err-left.ensures.tells in
    let q = err_from_is_err_and c.from_residual.result c.from_residual.ensures.1 in
    draw_fails b ok _ _ _ _ y _ l e a m _ s h (rw (q.1, q.2) refl)

pub returns : goal.returns
returns c = λ b h ok y l e a n p.
    let m : size_of b ≤ length (pool_of b) = omega (arith, n, ap length p, c.requires.4) in
    let d = rw (p, c.start.ensures) at c.in_ok-left.ensures.tells in
    let g = c.enlist.ensures b h ok l e (awaits_none _ a) (good_cohort b _ _ _ d.drew _ n ok) in
    drawn_out b ok _ _ _ _ y _ l e a m _ _ d.within d.drew _ n g.0 g.1
