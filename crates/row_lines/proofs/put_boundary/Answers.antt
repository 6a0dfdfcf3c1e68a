use Rattle.phrases.specs.Texts.{bytes}
use Rattle.lines.proofs.Lays.{puts_both}
use Rattle.row_lines.specs.Rows.{boundary_text}
use Rattle.row_lines.proofs.put_boundary.Goals as goal

pub returns : goal.returns
unfolding bytes boundary_text
returns c = puts_both (puts_both (puts_both c.put_column-a.ensures c.put_column-b.ensures) c.put_column-c.ensures) c.put_column.ensures
