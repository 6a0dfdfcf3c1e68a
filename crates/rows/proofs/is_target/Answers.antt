use Rattle.tables.proofs.Bools.{and_is}
use Rattle.rows.proofs.is_target.Goals as goal

pub returns : goal.returns
returns c = and_is _ _
