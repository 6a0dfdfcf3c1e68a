use Rattle.std.proofs.Common.{arith}
use Rattle.lines.proofs.Lays.{puts_past, blanks_fitting}
use Rattle.lines.proofs.put_blanks.Goals as goal

pub returns-then-line-at : goal.returns-then-line-at
returns-then-line-at c = puts_past _ _ _ c.if-line-at.true

pub returns : goal.returns
returns c = blanks_fitting _ _ c.args.at c.min-fitting.result c.args.n (omega arith) c.min-fitting.ensures (c.fill.ensures.after (λ y h. h))
