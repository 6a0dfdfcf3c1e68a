use Rattle.std.proofs.Common.{arith}
use Rattle.drains.proofs.Drains.{size_some}
use Rattle.drains.proofs.reaches_quorum.Goals as goal

pub returns-then-size-eq0 : goal.returns-then-size-eq0
returns-then-size-eq0 c = λ b h ok. absurd (omega (arith, size_some b ok, c.shard_size-size.ensures b h))

pub returns : goal.returns
returns c = λ b h ok. rw (c.quorum_of.ensures, c.shard_size-size.ensures b h)
