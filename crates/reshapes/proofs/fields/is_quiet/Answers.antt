use Prim.Native.Nat.{ℕ}
use mathlib.Core.Path.{ap, ◌∙◌}
use lib.Dec.{eqb}
use Rattle.board.specs.Held.{no_reshape}
use Rattle.board.proofs.Sections.{reshapes, word_read}
use Rattle.reshapes.specs.Changes.{quiet_at}
use Rattle.reshapes.proofs.OfReshapes.{quiet_is, quiet_below}
use Rattle.reshapes.proofs.fields.is_quiet.Goals as goal

pub returns : goal.returns
returns c = λ b h l.
    let s = c.args.side in
    rw c.quiet_at.ensures (ap (λ (w : ℕ). eqb w 1) (word_read reshapes _ b h c.args.i no_reshape l (quiet_at s) (quiet_below s)) ∙ quiet_is _ s)
