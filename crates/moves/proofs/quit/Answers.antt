use Rattle.moves.proofs.Exiting.{no_committee_lem, member_struck}
use Rattle.moves.proofs.quit.Goals as goal

pub returns-in_default : goal.returns-in_default
returns-in_default c = λ b h ok. no_committee_lem b ok _ _ _ (c.in_default.ensures.found b h ok) h

pub returns : goal.returns
returns c = λ b h ok.
    let f = c.in-Some.ensures.found b h ok in
    member_struck b ok _ _ _ _ f.0 f.1 (c.strike_member.ensures b h f.0)
