use Rattle.rules.specs.Moves.{take_off}
use Rattle.moves.proofs.Kept.{placed_well}
use Rattle.moves.proofs.take_off.Goals as goal

pub returns : goal.returns
unfolding take_off
returns c = λ b h ok. c.quit.ensures _ (c.place.ensures b h ok) (placed_well b ok _ c.args.how)
