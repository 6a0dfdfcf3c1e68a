use Rattle.shifts.proofs.Words.{opened}
use Rattle.shifts.proofs.open_gap.Goals as goal

pub returns : goal.returns
returns c = λ P R G Z e p r g. opened _ _ _ P R G Z _ _ _ e p r g c.shift_up.ensures c.clear.ensures
