use Rattle.lines.proofs.Lays.{puts_both}
use Rattle.phrases.specs.Texts.{bytes}
use Rattle.phrases.specs.Places.{seated_text}
use Rattle.phrases.proofs.put_seated.Goals as goal

pub returns-then-ready : goal.returns-then-ready
unfolding bytes seated_text
returns-then-ready c = rw c.if-ready.true c.put_column.ensures

pub returns : goal.returns
unfolding bytes seated_text
returns c = rw c.if-ready.false (puts_both c.put_column-a.ensures c.put_column-2.ensures)
