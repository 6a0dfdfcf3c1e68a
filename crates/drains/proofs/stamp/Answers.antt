use Rattle.drains.proofs.Schedules.{sum_is, drain_short, drain_stamped}
use Rattle.drains.proofs.stamp.Goals as goal

pub returns : goal.returns
returns c = λ b h ok t r.
    drain_stamped b ok t _ r _ (sum_is b ok _ _ _ _ (c.epoch.ensures b h) (c.drain_length.ensures b h) (drain_short b ok) c.later-by.ensures) _ (c.set_drain_by.ensures b h r.inside)
