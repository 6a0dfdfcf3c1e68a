use Rattle.resolving.proofs.Closes.{seats_nowhere, seats_many}
use Rattle.resolving.proofs.has_seats_free.Goals as goal

pub returns-in_default : goal.returns-in_default
returns-in_default c = λ b h ok. seats_nowhere _ b (c.in_default.ensures.found b h ok)

pub returns : goal.returns
returns c = λ b h ok.
    let f = c.in-Some.ensures.found b h ok in
    rw c.saturating_sub.ensures (seats_many _ b ok _ f.0 f.1 _ _ (c.member_count-members.ensures b h f.0) (c.rotations_on-open.ensures.1 b h ok) _ (c.shard_size.ensures b h))
