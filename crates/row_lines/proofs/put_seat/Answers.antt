use Rattle.phrases.specs.Texts.{bytes}
use Rattle.lines.proofs.Lays.{puts_both}
use Rattle.row_lines.specs.Rows.{seat_text}
use Rattle.row_lines.proofs.put_seat.Goals as goal

pub returns : goal.returns
unfolding bytes seat_text
returns c = puts_both (puts_both c.put_number-a.ensures c.put_column-b.ensures) c.put_either.ensures
