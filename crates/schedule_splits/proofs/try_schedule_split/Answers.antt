use native.Mathlib.Omega.{arith}
use lib.ListN.{length-take}
use Rattle.schedule_splits.proofs.try_schedule_split.Goals as goal

pub slice_bounds-split_among-end : goal.slice_bounds-split_among-end
slice_bounds-split_among-end c = rw length-take (omega (arith, c.gather_staying-n.ensures.0, c.gather_staying-n.ensures.1))

pub split_among-requires : goal.split_among-requires
split_among-requires c = (c.requires.0, rw length-take (omega (arith, c.gather_staying-n.ensures.0)), c.requires.1)

pub returns : goal.returns
returns c = (c.split_among.ensures.0, λ b h ok. c.split_among.ensures.1 b h ok (c.gather_staying-n.ensures.2 b h ok))
