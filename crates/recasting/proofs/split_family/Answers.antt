use Rattle.rules.proofs.KeptBoard.{family, good_of_lem, of_good}
use Rattle.recasting.proofs.Families.{good_end, good_begin, left_fits, right_fits, split_whole}
use Rattle.recasting.proofs.split_family.Goals as goal

pub returns : goal.returns
returns c = λ b h ok tg w f.
    let g = good_of_lem b ok in
    let t = c.args.target.0 in
    let height = c.args.height.0 in
    let s = family t tg in
    let ended = good_end t g in
    let first = left_fits t height b g f in
    let one = rw c.left.ensures at (c.begin_shard.ensures _ (c.end_shard.ensures b h ok) (of_good ended)) s.left first in
    split_whole t height b g f _ (rw c.right.ensures at (c.begin_shard-2.ensures _ one (of_good (good_begin ended _ height first s.left w))) s.right (right_fits t height b g f))
