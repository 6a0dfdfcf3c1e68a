use mathlib.Core.Path.{sym, ◌∙◌}
use native.Mathlib.Omega.{arith}
use lib.ListN.{get_or-eq_default}
use Rattle.unpacking.proofs.Bytes.{total, word_is}
use Rattle.unpacking.proofs.word.Goals as goal

pub returns-then-bytes-at : goal.returns-then-bytes-at
returns-then-bytes-at c = λ ws h. sym (get_or-eq_default ws 0 (omega (arith, total h)))

pub returns : goal.returns
returns c = λ ws h. c.word_at.ensures ∙ word_is h c.args.at (omega (arith, total h))
