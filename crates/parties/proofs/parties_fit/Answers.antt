use Prim.Native.Nat.{◌+◌}
use mathlib.Core.Path.{ap, ◌∙◌}
use lib.ListN.{drop}
use Rattle.rules.specs.Board.{Rotation}
use Rattle.shards.specs.Rotations.{rotation_of}
use Rattle.parties.specs.Pairs.{fits_before}
use Rattle.parties.proofs.Pairs.{fits_is}
use Rattle.parties.proofs.parties_fit.Goals as goal

pub returns : goal.returns
returns c = λ b h ok l.
    rw c.ne-differ.ensures
    (fits_is b (rotation_of c.at-r.result) _ _ _ _ (c.is_apart.ensures b h) (c.sits_on.ensures b h ok) (c.sits_on-2.ensures b h ok)
    ∙ ap (λ (r : Rotation). fits_before b r (drop (c.args.i + 1) b.rotations)) (c.at-r.ensures b h l))
