use Rattle.lines.proofs.Lays.{puts_both}
use Rattle.phrases.proofs.put_column.Goals as goal

pub returns : goal.returns
returns c = puts_both c.put_text-a.ensures c.put_number.ensures
