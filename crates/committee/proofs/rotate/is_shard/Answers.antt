use Rattle.tables.proofs.Bools.{and_is}
use Rattle.committee.proofs.rotate.is_shard.Goals as goal

pub returns : goal.returns
returns c = and_is _ _
