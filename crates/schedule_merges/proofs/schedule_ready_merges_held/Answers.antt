use native.Mathlib.Omega.{arith}
use lib.ListN.{length-take}
use Rattle.schedule_merges.proofs.Merges.{step_is}
use Rattle.schedule_merges.proofs.schedule_ready_merges_held.Goals as goal

pub slice_bounds-in_turn-end : goal.slice_bounds-in_turn-end
slice_bounds-in_turn-end c = rw length-take (omega (arith, c.targets-n.ensures.0, c.targets-n.ensures.1))

pub in_turn-requires : goal.in_turn-requires
in_turn-requires c = (c.requires, rw length-take (omega (arith, c.targets-n.ensures.0)))

pub returns : goal.returns
returns c = λ b h ok. step_is _ b (c.targets-n.ensures.2 b h) _ _ (c.in_turn.ensures b h ok)
