use Rattle.shards.specs.Rotations.{rotation_of}
use Rattle.resolving.proofs.Closes.{removed_well, closed_at}
use Rattle.resolving.proofs.close_at.Goals as goal

pub returns : goal.returns
returns c = λ b h ok l. closed_at b ok _ l _ (rotation_of c.at-r.result) (c.at-r.ensures b h l) (c.retire.ensures _ (c.close.ensures b h l) (removed_well b ok _ l))
