use Rattle.striking.proofs.Sifting.{no_committee_lem, committee_changed}
use Rattle.board.proofs.Keyed.{seats_rise}
use Rattle.striking.proofs.strike_seated.Goals as goal

pub returns-in_default : goal.returns-in_default
returns-in_default c = λ b h ok r. no_committee_lem b _ _ _ (c.in_default.ensures.found b h ok) h

pub returns : goal.returns
returns c = λ b h ok r.
    let f = c.in-Some.ensures.found b h ok in
    committee_changed b _ _ _ ok _ f.0 f.1 (c.keep_unseated.ensures b h f.0 r (seats_rise b ok _ r))
