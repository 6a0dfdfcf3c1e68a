use mathlib.Core.List.{◌∷◌, ◌++◌, []}
use native.Mathlib.Omega.{arith}
use lib.ListN.{get_or, length-append}
use Rattle.board.specs.Held.{no_committee}
use Rattle.board.proofs.OfCommittees.{members_lent, members_back}
use Rattle.board.proofs.committees.push_member.Goals as goal

pub returns : goal.returns
returns c = λ b h l m.
    let a = c.args in
    let v = (get_or b.committees a.j no_committee).val in
    members_back _ b h a.j l (λ x. x ++ (a.id.0 ∷ [])) _ (c.push.ensures v (members_lent _ b h a.j l) m) (simp length-append (omega arith))
