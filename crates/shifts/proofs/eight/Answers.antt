use Rattle.shifts.proofs.Parts.{gets_take}
use Rattle.shifts.proofs.eight.Goals as goal

pub returns : goal.returns
returns c = gets_take 8 c.args.t.now c.requires
