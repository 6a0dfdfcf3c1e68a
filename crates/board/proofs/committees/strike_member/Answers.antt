use native.Mathlib.Omega.{arith}
use lib.ListN.{get_or}
use Rattle.rules.specs.Lists.{strike}
use Rattle.board.specs.Held.{no_committee}
use Rattle.board.proofs.OfCommittees.{members_room, members_lent, members_back, strike_most}
use Rattle.board.proofs.committees.strike_member.Goals as goal

pub returns : goal.returns
returns c = λ b h l.
    let a = c.args in
    let m = members_room _ b h a.j l in
    let v = (get_or b.committees a.j no_committee).val in
    members_back _ b h a.j l (strike a.id.0) _ (c.strike_id.ensures v (members_lent _ b h a.j l) m)
    (omega (arith, strike_most a.id.0 v))
