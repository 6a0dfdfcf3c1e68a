use Prim.Native.Nat.{ℕ}
use mathlib.Core.Path.{ap, ◌∙◌}
use native.Mathlib.Omega.{arith}
use lib.Dec.{eqb}
use Rattle.board.specs.Held.{no_reshape}
use Rattle.board.proofs.Sections.{reshapes, word_read}
use Rattle.reshapes.proofs.OfReshapes.{merge_is}
use Rattle.reshapes.proofs.fields.is_merge.Goals as goal

pub returns : goal.returns
returns c = λ b h l. ap (λ (w : ℕ). eqb w 1) (word_read reshapes _ b h c.args.i no_reshape l 1 (omega arith)) ∙ merge_is _
