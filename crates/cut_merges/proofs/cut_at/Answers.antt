use Rattle.rules.proofs.KeptBoard.{of_good}
use Rattle.cut_merges.proofs.Cuts.{fit, one_beside, both_beside, one_row, both_held, both_fits, founded_good, parent_empty, founded_row, all_held, all_row, row_closed}
use Rattle.cut_merges.proofs.cut_at.Goals as goal

pub returns : goal.returns
returns c = λ b h ok l e w f.
    let a = c.args in
    let t = a.target.0 in
    let k = a.height.0 in
    let tg = (fit b ok t a.i l e).target in
    let h1 = rw c.left-left.ensures at (c.pool_others.ensures b h ok l) in
    let h2 = both_held b ok t a.i l e _ c.right-right.ensures _ (c.pool_others-2.ensures _ h1 (of_good (one_beside b ok t a.i l e).good) (one_row b ok t a.i l e)) in
    let h3 = c.merge_family.ensures _ h2 (of_good (both_beside b ok t a.i l e).good) tg w (both_fits b ok t a.i l e k w f) in
    let h4 = all_held b ok t a.i l e k w f _ (c.rejoin_all.ensures _ h3 (of_good (founded_good b ok t a.i l e k w f)) (founded_row b ok t a.i l e k w f) tg (parent_empty b ok t a.i l e k w f)) in
    row_closed b ok t a.i l e k w f _ (c.close.ensures _ h4 (all_row b ok t a.i l e k w f))
