use Rattle.wellformed.proofs.Sections.{shards_are}
use Rattle.wellformed.proofs.shards_ok.Goals as goal

pub returns : goal.returns
returns c = shards_are _ _ _ c.table_ok.ensures.told c.table_ok-2.ensures.told
