use Prim.Native.Nat.{◌-◌, ◌≤◌}
use native.Mathlib.Omega.{arith}
use lib.ListN.{length, length-take, length-drop}
use Rattle.std.proofs.lemmas.Result.{err_from_is_err_and}
use Rattle.sampling.proofs.Failing.{then_fails}
use Rattle.keepers.proofs.Drawing.{right_done}
use Rattle.keepers.proofs.draw_right.Goals as goal

pub returns-in_err-rights-clause-tells : goal.returns-in_err-rights-clause-tells
returns-in_err-rights-clause-tells c =
    let p = err_from_is_err_and c.from_residual.result c.from_residual.ensures.1 in
    rw (p.1, p.2) (λ b h ok. then_fails _ _ _ (rw c.right.ensures at (c.in_err-rights.ensures.tells b h ok)))

pub returns-clause-within : goal.returns-clause-within
returns-clause-within c = let w = c.in_ok-rights.ensures.within in (omega (arith, w.0, c.requires.2), w.1)

pub returns-clause-tells : goal.returns-clause-tells
returns-clause-tells c = λ b h ok.
    let a = c.args in
    let p = c.requires in
    let w = c.in_ok-rights.ensures.within in
    let m = c.in_ok-rights.rights.count in
    let part = c.keepers_of.new.out in
    let few : m ≤ length part = omega (arith, simp (length-take, length-drop) at c.in_ok-rights.ensures.len, w.0, p.2, p.5) in
    right_done _ b _ _ c.right.ensures _ a.n (length a.out.now - a.n) a.out.now part _ (omega (arith, p.2, p.5)) m few _ (c.in_ok-rights.ensures.tells b h ok)
