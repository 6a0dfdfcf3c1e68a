use Rattle.rules.proofs.KeptBoard.{good_of_lem, of_good}
use Rattle.recasting.proofs.Families.{good_emptied, committees_fit_lem, bounds_fit}
use Rattle.recasting.proofs.begin_shard.Goals as goal

pub returns : goal.returns
returns c = λ b h ok s f.
    let g = good_of_lem b ok in
    let l = committees_fit_lem g _ _ f in
    c.new_boundary.ensures _ (c.empty_committee.ensures b h ok l) (of_good (good_emptied g _ s l)) (bounds_fit g _ _ f)
