use Rattle.draw_readers.proofs.Told.{told_right}
use Rattle.draw_readers.proofs.draw_at.Goals as goal

pub returns : goal.returns
returns c = told_right c.args.draws.now c.args.at c.args.most _ _ c.in_ok-index.ensures
