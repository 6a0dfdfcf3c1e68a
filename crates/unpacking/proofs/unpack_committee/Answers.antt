use Rattle.unpacking.proofs.Rows.{committee_read, committee_none}
use Rattle.unpacking.proofs.unpack_committee.Goals as goal

pub returns-in_err-members : goal.returns-in_err-members
returns-in_err-members c = λ ws h. rw c.from_residual.ensures (committee_none ws c.args.out.now _ _ c.args.at c.requires (c.in_err-members.ensures ws h))

pub returns : goal.returns
returns c = λ ws h.
    committee_read ws c.args.out.now _ _ c.args.at c.in_ok-members.members c.unpack_list.result c.requires c.unpack_words.auto.out c.unpack_list.auto.out (c.in_ok-members.ensures ws h)
    (c.unpack_list.ensures ws h)
