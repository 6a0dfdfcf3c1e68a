use Rattle.board.specs.Held.{no_rotation}
use Rattle.board.proofs.Sections.{rotations, row_lent}
use Rattle.shards.proofs.rotations.at.Goals as goal

pub returns : goal.returns
returns c = λ b h l. c.load.ensures _ (row_lent rotations _ b h c.args.i no_rotation l)
