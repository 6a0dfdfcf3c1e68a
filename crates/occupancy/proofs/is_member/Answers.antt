use mathlib.Core.Path.{ap, ◌∙◌}
use Rattle.rules.specs.Lists.{has}
use Rattle.occupancy.proofs.Occupied.{no_committee_lem, members_there}
use Rattle.occupancy.proofs.is_member.Goals as goal

pub returns-in-None : goal.returns-in-None
returns-in-None c = λ b h ok. no_committee_lem _ b ok _ (c.in-None.ensures.found b h ok)

pub returns-in-Some : goal.returns-in-Some
returns-in-Some c = λ b h ok.
    let f = c.in-Some.ensures.found b h ok in
    c.has_member.ensures b h f.0 ∙ ap (has _) (members_there _ b ok _ f)
