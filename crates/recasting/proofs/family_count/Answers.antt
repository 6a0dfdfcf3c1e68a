use mathlib.Core.Path.{◌∙◌}
use native.Mathlib.Omega.{arith}
use Rattle.recasting.proofs.family_count.Goals as goal

pub returns : goal.returns
returns c = λ b h ok.
    let n = c.count.ensures b h in
    let cs = c.rows_within-count.ensures.1 (rw n h.fits.committees) ∙ n in
    omega (arith, cs, c.lacks_committee.ensures.1 b h ok, rw c.left.ensures at (c.lacks_committee-2.ensures.1 b h ok), rw c.right.ensures at (c.lacks_committee-3.ensures.1 b h ok))
