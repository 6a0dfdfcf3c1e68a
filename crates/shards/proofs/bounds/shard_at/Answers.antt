use mathlib.Core.Path.{◌∙◌}
use native.Mathlib.Omega.{arith}
use Rattle.board.specs.Held.{no_boundary}
use Rattle.board.proofs.Sections.{bounds, key_read}
use Rattle.shards.proofs.OfBounds.{boundary_key}
use Rattle.shards.proofs.bounds.shard_at.Goals as goal

pub returns : goal.returns
returns c = λ b h l. key_read bounds _ b h c.args.i no_boundary l (omega arith) ∙ boundary_key _
