use Rattle.phrases.specs.Texts.{bytes}
use Rattle.row_lines.specs.Rows.{quiet_text}
use Rattle.row_lines.proofs.put_quiet.Goals as goal

pub returns-in-true-true : goal.returns-in-true-true
unfolding bytes quiet_text
returns-in-true-true c = rw (c.in-true-true.is-0, c.in-true-true.is-1) c.put_text.ensures

pub returns-in-true-false : goal.returns-in-true-false
unfolding bytes quiet_text
returns-in-true-false c = rw (c.in-true-false.is-0, c.in-true-false.is-1) c.put_either.ensures

pub returns-in-false-true : goal.returns-in-false-true
unfolding bytes quiet_text
returns-in-false-true c = rw (c.in-false-true.is-0, c.in-false-true.is-1) c.put_text-in-false-true.ensures

pub returns-in-false-false : goal.returns-in-false-false
unfolding bytes quiet_text
returns-in-false-false c = rw (c.in-false-false.is-0, c.in-false-false.is-1) c.put_text-in-false-false.ensures
