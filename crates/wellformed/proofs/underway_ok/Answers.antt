use Rattle.wellformed.proofs.Sections.{underway_are}
use Rattle.wellformed.proofs.underway_ok.Goals as goal

pub returns : goal.returns
returns c = underway_are _ _ _ c.table_ok.ensures.told c.table_ok-2.ensures.told
