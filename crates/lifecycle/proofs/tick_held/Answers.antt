use native.Mathlib.Omega.{arith}
use Rattle.lifecycle.proofs.Ticks.{at_the_last, to_the_next}
use Rattle.lifecycle.proofs.tick_held.Goals as goal

pub returns-then-e-ge-LAST_EPOCH : goal.returns-then-e-ge-LAST_EPOCH
returns-then-e-ge-LAST_EPOCH c = λ b h ok. at_the_last b ok _ _ _ (c.epoch-epoch.ensures b h) (omega arith) h c.refusal.ensures

pub returns : goal.returns
returns c = λ b h ok. to_the_next b ok _ _ _ (c.epoch-epoch.ensures b h) (omega arith) (c.set_epoch.ensures b h) c.done.ensures
