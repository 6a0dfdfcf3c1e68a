use Rattle.rules.specs.Places.{leave_seat}
use Rattle.moves.specs.declared.Exit.TheVariants.{Short}
use Rattle.moves.proofs.Kept.{taken_well}
use Rattle.exits.proofs.leave_seat.Goals as goal

pub returns : goal.returns
unfolding leave_seat
returns c = λ b h ok. rw c.parent.ensures at (c.give_up_seat.ensures _ (c.take_off.ensures b h ok) (taken_well b ok _ Short _))
