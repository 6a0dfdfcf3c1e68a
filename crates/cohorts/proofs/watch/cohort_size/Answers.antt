use Rattle.cohorts.proofs.Watches.{size_is}
use Rattle.cohorts.proofs.watch.cohort_size.Goals as goal

pub returns : goal.returns
returns c = (c.rows_within.ensures.0, λ b h ok. size_is b ok _ _ (c.shard_size.ensures b h) c.rows_within.ensures.1)
