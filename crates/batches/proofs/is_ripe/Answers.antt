use Rattle.batches.proofs.Wanted.{ripe_unscheduled, ripe_due}
use Rattle.batches.proofs.is_ripe.Goals as goal

pub returns-then-not-due : goal.returns-then-not-due
returns-then-not-due c = λ b h l. ripe_unscheduled c.args.due _ _ _ c.if-not-due.true-raw (c.is_scheduled-scheduled.ensures b h l)

pub returns : goal.returns
returns c = λ b h l. ripe_due c.args.due _ _ _ _ c.if-not-due.false-raw (c.is_scheduled-scheduled.ensures b h l) (c.terminal_at-terminal.ensures b h l)
