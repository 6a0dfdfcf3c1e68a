use Rattle.rules.specs.Schedule.{unscheduled}
use native.Mathlib.Omega.{arith}
use lib.ListN.{length-take}
use Rattle.schedule_splits.proofs.schedule_ready_splits_held.Goals as goal

pub slice_bounds-in_turn-end : goal.slice_bounds-in_turn-end
slice_bounds-in_turn-end c = rw length-take (omega (arith, c.targets-n.ensures.0, c.targets-n.ensures.1))

pub in_turn-requires : goal.in_turn-requires
in_turn-requires c = (c.requires, rw length-take (omega (arith, c.targets-n.ensures.0)))

pub returns : goal.returns
unfolding unscheduled
returns c = λ b h ok. c.in_turn.ensures b h ok (c.targets-n.ensures.2 b h)
