use Rattle.families.proofs.Refusing.{overlap_is}
use Rattle.families.proofs.overlaps.Goals as goal

pub returns : goal.returns
returns c = rw (c.eq.ensures, c.eq-2.ensures, c.eq-3.ensures, c.parent-below.ensures, c.parent-above.ensures) (overlap_is c.args.t.0 c.args.u.0)
