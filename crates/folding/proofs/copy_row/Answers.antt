use Rattle.folding.proofs.Rows.{row_copied}
use Rattle.folding.proofs.copy_row.Goals as goal

pub returns : goal.returns
returns c =
    λ b h li lj.
    let a = c.args in
    let n = c.most_members-n.ensures.1 b h li lj in
    row_copied _ b h a.i a.j _ li lj n.0 n.1 c.most_members-n.ensures.0 _ c.copy_words.ensures
