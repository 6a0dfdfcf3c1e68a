use Rattle.phrases.specs.Texts.{bytes}
use Rattle.lines.proofs.Lays.{puts_both}
use Rattle.row_lines.specs.Rows.{reshape_text}
use Rattle.row_lines.proofs.put_reshape.Goals as goal

pub returns : goal.returns
unfolding bytes reshape_text
returns c = puts_both (puts_both c.put_either-a.ensures c.put_number-b.ensures) c.put_named.ensures
