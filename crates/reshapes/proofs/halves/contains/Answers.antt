use Rattle.reshapes.proofs.OfReshapes.{half_room}
use Rattle.reshapes.proofs.halves.contains.Goals as goal

pub returns : goal.returns
returns c = λ b h l. c.contains.ensures _ (c.words.ensures.held b h l) (half_room _ b h c.args.i l c.args.side)
