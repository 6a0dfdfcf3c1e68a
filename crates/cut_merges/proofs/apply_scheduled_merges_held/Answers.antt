use native.Mathlib.Omega.{arith}
use mathlib.Core.Path.{◌∙◌}
use lib.ListN.{length-take}
use Rattle.cut_merges.proofs.Cuts.{as_step, due_are}
use Rattle.cut_merges.proofs.apply_scheduled_merges_held.Goals as goal

pub slice_bounds-in_turn-end : goal.slice_bounds-in_turn-end
slice_bounds-in_turn-end c = rw length-take (omega (arith, c.targets-n.ensures.0, c.targets-n.ensures.1))

pub in_turn-requires : goal.in_turn-requires
in_turn-requires c = (c.requires, rw length-take (omega (arith, c.targets-n.ensures.0)))

pub returns : goal.returns
returns c = λ b h ok. let e = c.targets-n.ensures.2 b h ∙ due_are b in as_step b _ _ (rw e at (c.in_turn.ensures b h ok))
