use mathlib.Core.Path.{◌∙◌}
use Rattle.rules.proofs.KeptBoard.{family, good_of_lem}
use Rattle.recasting.proofs.Sizes.{merge_past, merge_room}
use Rattle.recasting.proofs.merge_fits.Goals as goal

pub returns-then-family_count : goal.returns-then-family_count
returns-then-family_count c = λ b h ok tg height. merge_past _ (family _ tg).least height b (good_of_lem b ok) (c.family_count.ensures b h ok) c.if-family_count.true

pub returns : goal.returns
returns c = λ b h ok tg height.
    let n = c.count.ensures b h in
    let vs = c.rows_within-bounds.ensures.1 (rw n h.fits.bounds) ∙ n in
    merge_room _ (family _ tg).least height b (good_of_lem b ok) (c.family_count.ensures b h ok) c.if-family_count.false vs (c.lacks_boundary.ensures.1 b h ok)
