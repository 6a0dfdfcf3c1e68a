use mathlib.Core.Path.{◌∙◌}
use native.Mathlib.Omega.{arith}
use Rattle.board.specs.Held.{no_committee}
use Rattle.board.proofs.Sections.{committees, key_read}
use Rattle.board.proofs.OfCommittees.{committee_key}
use Rattle.board.proofs.committees.shard_at.Goals as goal

pub returns : goal.returns
returns c = λ b h l. key_read committees _ b h c.args.j no_committee l (omega arith) ∙ committee_key _
