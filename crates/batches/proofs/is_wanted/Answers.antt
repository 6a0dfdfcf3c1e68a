use Rattle.batches.proofs.Wanted.{wanted_merge, wanted_split}
use Rattle.batches.proofs.is_wanted.Goals as goal

pub returns-then-merges : goal.returns-then-merges
returns-then-merges c = λ b h l.
    wanted_merge c.args.which _ _ _ _ _ (c.is_merge-merging.ensures b h l) c.due.ensures (c.is_ripe.ensures b h l) _ c.merges.ensures c.if-merges.true

pub returns : goal.returns
returns c = λ b h l.
    wanted_split c.args.which _ _ _ _ _ (c.is_merge-merging.ensures b h l) c.due-2.ensures (c.is_ripe-2.ensures b h l) _ c.merges.ensures c.if-merges.false
