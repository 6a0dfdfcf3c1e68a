use Rattle.moves.specs.declared.Exit.TheVariants.{Short}
use Rattle.moves.proofs.Kept.{taken_well}
use Rattle.exits.proofs.leave_watch.Goals as goal

pub returns : goal.returns
returns c = λ b h ok. c.give_up_seat.ensures _ (c.take_off.ensures b h ok) (taken_well b ok _ Short _)
