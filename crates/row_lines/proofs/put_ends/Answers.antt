use Rattle.phrases.specs.Texts.{bytes}
use Rattle.lines.proofs.Lays.{puts_both}
use Rattle.row_lines.specs.Rows.{ends_text}
use Rattle.row_lines.proofs.put_ends.Goals as goal

pub returns : goal.returns
unfolding bytes ends_text
returns c = puts_both c.put_epoch_or-a.ensures c.put_epoch_or.ensures
