use mathlib.Core.Path.{◌∙◌}
use native.Mathlib.Omega.{arith}
use Rattle.board.specs.Held.{no_reshape}
use Rattle.board.proofs.Sections.{reshapes, key_read}
use Rattle.reshapes.proofs.OfReshapes.{target_is}
use Rattle.reshapes.proofs.fields.target_at.Goals as goal

pub returns : goal.returns
returns c = λ b h l. key_read reshapes _ b h c.args.i no_reshape l (omega arith) ∙ target_is _
