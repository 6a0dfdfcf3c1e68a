use Rattle.recasting.proofs.end_shard.Goals as goal

pub returns : goal.returns
returns c = λ b h ok. c.drop_of.ensures _ (c.close_committee.ensures b h ok)
