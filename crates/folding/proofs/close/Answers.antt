use native.Mathlib.Omega.{arith}
use Rattle.folding.proofs.Free.{last_closed}
use Rattle.folding.proofs.close.Goals as goal

pub returns-then-n-gt-MOST_COMMITTEES : goal.returns-then-n-gt-MOST_COMMITTEES
returns-then-n-gt-MOST_COMMITTEES c = λ b h l. absurd (omega (arith, c.count-n.ensures b h, h.fits.committees, c.if-n-gt-MOST_COMMITTEES.true))

pub returns-then-n-j : goal.returns-then-n-j
returns-then-n-j c = λ b h l. absurd (omega (arith, c.count-n.ensures b h, l, c.if-n-j.true))

pub returns : goal.returns
returns c =
    λ b h l.
    let n = c.count-n.ensures b h in
    last_closed b c.args.j l _ _ _ (omega (arith, n, l)) (c.free_higher.ensures b h (omega (arith, n, l))) c.close.ensures
