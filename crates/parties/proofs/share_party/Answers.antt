use Rattle.shards.specs.Rotations.{rotation_of}
use Rattle.parties.proofs.Pairs.{share_is}
use Rattle.parties.proofs.share_party.Goals as goal

pub returns : goal.returns
returns c = let a = c.args in rw (c.eq.ensures, c.eq-2.ensures, c.eq-3.ensures, c.eq-4.ensures, c.eq-5.ensures) (share_is (rotation_of a.p) (rotation_of a.q))
