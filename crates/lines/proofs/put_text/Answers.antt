use Rattle.std.proofs.Common.{arith}
use Rattle.lines.proofs.Lays.{puts_past, puts_fitting}
use Rattle.lines.proofs.put_text.Goals as goal

pub returns-then-line-at : goal.returns-then-line-at
returns-then-line-at c = puts_past _ _ _ c.if-line-at.true

pub returns : goal.returns
returns c = rw c.copy_from_slice.ensures.after (puts_fitting _ c.args.text.now c.args.at c.min-fitting.result (omega arith) c.min-fitting.ensures)
