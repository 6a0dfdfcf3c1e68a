use mathlib.Core.Path.{◌≡◌, ◌∙◌}
use lib.Dec.{ltb}
use Rattle.board.proofs.Bits.{less_is}
use Rattle.shards.specs.Rotations.{rotation_of}
use Rattle.shards.proofs.OfRotations.{before_is}
use Rattle.shards.proofs.rotations.is_before.Goals as goal

pub returns : goal.returns
returns c = λ p e f.
    let a = c.args in
    let s : c.lt.result ≡ ltb a.shard.0 a.q.shard.0 = c.lt.ensures ∙ less_is a.shard.0 a.q.shard.0 in
    let v : c.lt-2.result ≡ ltb a.victim.0 a.q.victim.0 = c.lt-2.ensures ∙ less_is a.victim.0 a.q.victim.0 in
    rw (s, c.eq.ensures, v) (before_is p (rotation_of a.q) _ _ e f)
