use mathlib.Core.Path.{◌∙◌}
use native.Mathlib.Omega.{arith}
use Rattle.board.specs.Held.{no_boundary}
use Rattle.board.proofs.Sections.{bounds, word_read}
use Rattle.shards.proofs.OfBounds.{boundary_height}
use Rattle.shards.proofs.bounds.height_at.Goals as goal

pub returns : goal.returns
returns c = λ b h l. word_read bounds _ b h c.args.i no_boundary l 1 (omega arith) ∙ boundary_height _
