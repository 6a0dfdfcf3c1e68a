use Rattle.shards.specs.Rotations.{rotation_of}
use Rattle.shards.proofs.OfRotations.{party_is}
use Rattle.shards.proofs.rotations.has_party.Goals as goal

pub returns : goal.returns
returns c = rw (c.eq.ensures, c.eq-2.ensures, c.eq-3.ensures) (party_is (rotation_of c.args.q) _ _)
