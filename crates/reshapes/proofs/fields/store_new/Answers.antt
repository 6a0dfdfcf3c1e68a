use mathlib.Core.Path.{◌∙◌}
use Rattle.board.proofs.Bits.{bit_is}
use Rattle.reshapes.proofs.OfReshapes.{admitted_stored}
use Rattle.reshapes.proofs.fields.store_new.Goals as goal

pub returns : goal.returns
returns c = λ q. let a = c.args in admitted_stored _ _ _ _ a.merging (c.from.ensures ∙ bit_is a.merging) q
