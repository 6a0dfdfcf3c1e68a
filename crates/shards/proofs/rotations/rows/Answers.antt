use native.Mathlib.Omega.{arith}
use Rattle.shards.proofs.rotations.rows.Goals as goal

pub returns-then-n-gt-MOST_ROTATIONS : goal.returns-then-n-gt-MOST_ROTATIONS
returns-then-n-gt-MOST_ROTATIONS c = (omega arith, λ b h. omega (arith, c.count-n.ensures b h, h.fits.rotations, c.if-n-gt-MOST_ROTATIONS.true))

pub returns : goal.returns
returns c = (omega arith, λ b h. c.count-n.ensures b h)
