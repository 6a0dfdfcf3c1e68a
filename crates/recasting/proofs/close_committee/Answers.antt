use Rattle.recasting.proofs.Families.{none_closed, one_closed}
use Rattle.recasting.proofs.close_committee.Goals as goal

pub returns-in_default : goal.returns-in_default
returns-in_default c = λ b h ok. none_closed b ok _ _ (c.in_default.ensures.found b h ok) h

pub returns : goal.returns
returns c = λ b h ok.
    let f = c.in-Some.ensures.found b h ok in
    one_closed b ok _ _ _ f.0 f.1 (c.close.ensures b h f.0)
