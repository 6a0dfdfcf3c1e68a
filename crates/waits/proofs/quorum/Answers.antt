use mathlib.Core.Path.{ap, ◌∙◌}
use native.Mathlib.Omega.{arith}
use Rattle.types.specs.Shards as shards
use Rattle.drains.proofs.Drains.{size_some}
use Rattle.waits.proofs.quorum.Goals as goal

pub returns-then-size-eq0 : goal.returns-then-size-eq0
returns-then-size-eq0 c = λ b h ok. absurd (omega (arith, size_some b ok, c.shard_size-size.ensures b h))

pub returns : goal.returns
returns c = λ b h ok. c.quorum_of.ensures ∙ ap shards.quorum (c.shard_size-size.ensures b h)
