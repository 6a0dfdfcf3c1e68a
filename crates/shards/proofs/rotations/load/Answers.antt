use Rattle.shards.proofs.OfRotations.{rotation_back}
use Rattle.shards.proofs.rotations.load.Goals as goal

pub returns : goal.returns
returns c = λ q e. rotation_back _ q e
