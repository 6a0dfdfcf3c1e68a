use Rattle.types.specs.Shards.{left_of, right_of}
use Rattle.reshapes.specs.declared.Side.TheVariants.{Left, Right}
use Rattle.rules.proofs.KeptBoard.{of_good}
use Rattle.cut_splits.proofs.Cuts.{fit, founded_good, founded_reshapes, left_empty, one_good, right_empty, one_reshapes, filled_by, founded_row, one_row, two_row, row_closed}
use Rattle.cut_splits.proofs.cut_at.Goals as goal

pub returns : goal.returns
returns c = λ b h ok l e w f.
    let a = c.args in
    let t = a.target.0 in
    let k = a.height.0 in
    let tg = (fit b ok t a.i l e).target in
    let founded = founded_reshapes b ok t a.i l e k w f in
    let one = one_reshapes b ok t a.i l e k w f in
    let h0 = c.split_family.ensures b h ok tg w f in
    let h1 = filled_by b ok t a.i l e k w f _ _ (left_of t) Left founded (c.settle_child.ensures _ h0 (of_good (founded_good b ok t a.i l e k w f)) (founded_row b ok t a.i l e k w f) tg (left_empty b ok t a.i l e k w f)) in
    let h2 = filled_by b ok t a.i l e k w f _ _ (right_of t) Right one (c.settle_child-2.ensures _ h1 (of_good (one_good b ok t a.i l e k w f)) (one_row b ok t a.i l e k w f) tg (right_empty b ok t a.i l e k w f)) in
    row_closed b ok t a.i l e k w f _ (c.close.ensures _ h2 (two_row b ok t a.i l e k w f))
