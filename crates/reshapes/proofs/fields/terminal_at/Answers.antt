use mathlib.Core.Path.{◌∙◌}
use native.Mathlib.Omega.{arith}
use Rattle.board.specs.Held.{no_reshape}
use Rattle.board.proofs.Sections.{reshapes, word_read}
use Rattle.reshapes.proofs.OfReshapes.{terminal_is}
use Rattle.reshapes.proofs.fields.terminal_at.Goals as goal

pub returns : goal.returns
returns c = λ b h l. word_read reshapes _ b h c.args.i no_reshape l 6 (omega arith) ∙ terminal_is _
