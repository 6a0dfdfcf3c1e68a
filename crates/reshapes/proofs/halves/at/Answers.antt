use Rattle.rules.specs.Board.{most_half}
use Rattle.tables.proofs.Ids.{id_at}
use Rattle.reshapes.proofs.OfReshapes.{half_room}
use Rattle.reshapes.proofs.halves.at.Goals as goal

pub returns : goal.returns
returns c = λ b h l m. let i = c.args.i in id_at most_half _ _ (c.words.ensures.held b h l) c.args.k m (half_room _ b h i l c.args.side)
