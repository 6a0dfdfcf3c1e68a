use Rattle.phrases.specs.Texts.{bytes}
use Rattle.lines.proofs.Lays.{puts_both}
use Rattle.row_lines.specs.Rows.{progress_text}
use Rattle.row_lines.proofs.put_progress.Goals as goal

pub returns : goal.returns
unfolding bytes progress_text
returns c = puts_both (puts_both c.put_epoch_or-a.ensures c.put_quiet-b.ensures) c.put_epoch_or.ensures
