use native.Mathlib.Omega.{arith}
use Rattle.rules.proofs.KeptBoard.{family, good_of_lem, of_good}
use Rattle.recasting.proofs.Families.{good_closed, good_emptied, committees_fit_lem, bounds_fit, parent_fits, merge_whole}
use Rattle.recasting.proofs.Replaced.{both_good, merged_fit, in_order}
use Rattle.recasting.proofs.merge_family.Goals as goal

pub returns : goal.returns
returns c =
    λ b h ok tg w f.
    let a = c.args in
    let t = a.target.0 in
    let height = a.height.0 in
    let g = good_of_lem b ok in
    let both = both_good t height b g f in
    let fit = parent_fits t height b f in
    let right = rw c.right.ensures at (c.close_committee.ensures b h ok) in
    let left = rw c.left.ensures at (c.replace_committee.ensures _ right (of_good (good_closed _ g))) (omega (arith, (family t tg).least)) (merged_fit t height b g f) in
    let one = rw c.left-2.ensures at (c.drop_of.ensures _ (in_order t height b g f _ left)) in
    let two = rw c.right-2.ensures at (c.drop_of-2.ensures _ one) in
    merge_whole t height b f _ (c.new_boundary.ensures _ two (of_good (good_emptied both t (family t tg).target (committees_fit_lem both t height fit))) (bounds_fit both t height fit))
