use native.Mathlib.Omega.{arith}
use Rattle.folding.proofs.Free.{one_replaced}
use Rattle.folding.proofs.replace.Goals as goal

pub returns : goal.returns
returns c =
    λ b h l.
    one_replaced b c.args.j l _ _ c.args.k (omega (arith, l, c.requires.1)) (c.free_lower.ensures b h l) _ c.rename.ensures
