use Rattle.drains.proofs.Drains.{reads_merge, reads_split, quiet_both, quiet_one}
use Rattle.drains.proofs.is_quiet.Goals as goal

pub returns-then-merging : goal.returns-then-merging
returns-then-merging c = λ b h l. quiet_both _ _ (c.is_quiet-left.ensures b h l) (reads_merge _ _ (c.is_merge-merging.ensures b h l) c.if-merging.true) _ (c.is_quiet.ensures b h l)

pub returns : goal.returns
returns c = λ b h l. quiet_one _ _ (c.is_quiet-left.ensures b h l) (reads_split _ _ (c.is_merge-merging.ensures b h l) c.if-merging.false)
