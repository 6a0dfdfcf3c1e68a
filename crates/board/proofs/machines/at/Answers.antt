use Rattle.board.specs.Held.{no_machine}
use Rattle.board.proofs.Sections.{machines, row_lent}
use Rattle.board.proofs.machines.at.Goals as goal

pub returns : goal.returns
returns c = λ b h l. c.load.ensures _ (row_lent machines _ b h c.args.i no_machine l)
