use Rattle.shifts.proofs.Words.{closed}
use Rattle.shifts.proofs.close_gap.Goals as goal

pub returns : goal.returns
returns c = λ P F R Z e p g r. closed _ _ _ P F R Z _ _ _ e p g r c.shift_down.ensures c.clear.ensures
