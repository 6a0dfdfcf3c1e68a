use native.Mathlib.Omega.{arith}
use lib.ListN.{get_or, take, length-take}
use Rattle.board.specs.Held.{no_committee}
use Rattle.board.proofs.OfCommittees.{members_room, members_lent, members_back}
use Rattle.striking.proofs.cut_members.Goals as goal

pub returns : goal.returns
returns c = λ b h l k.
    let a = c.args in
    let m = members_room _ b h a.j l in
    let v = (get_or b.committees a.j no_committee).val in
    members_back _ b h a.j l (take a.k) _ (c.cut.ensures v (members_lent _ b h a.j l) m k) (omega (arith, length-take a.k v))
