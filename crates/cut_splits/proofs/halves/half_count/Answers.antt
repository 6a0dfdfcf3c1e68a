use mathlib.Core.Path.{◌∙◌}
use Rattle.arriving.proofs.Comes.{row_fit}
use Rattle.cut_splits.proofs.Children.{half_room}
use Rattle.cut_splits.proofs.halves.half_count.Goals as goal

pub returns : goal.returns
returns c = (c.rows_within.ensures.0, λ b h ok l. let n = c.count.ensures b h l in c.rows_within.ensures.1 (rw n (half_room c.args.side (row_fit b ok _ l))) ∙ n)
