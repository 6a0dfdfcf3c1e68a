use Prim.Native.Nat.{◌<◌}
use mathlib.Core.Path.{sym, ◌∙◌}
use native.Mathlib.Omega.{arith}
use lib.ListN.{length, length-set}
use Rattle.gathering.specs.Gathered.{Staying}
use Rattle.gathering.proofs.Gathers.{added, passed}
use Rattle.gathering.proofs.take_staying.Goals as goal

pub returns-then-stays : goal.returns-then-stays
returns-then-stays c = let a = c.args in
    let l : a.k < length a.out.now = omega (arith, c.requires.1, c.requires.2) in (
      omega arith,
      length-set a.out.now a.k a.id.0 ∙ c.requires.1,
      λ b h ok. added Staying a.shard.0 b a.id.0 a.out.now a.k (sym c.if-stays.true ∙ c.stays.ensures b h ok) l,
    )

pub returns : goal.returns
returns c = let a = c.args in (
  omega arith,
  c.requires.1,
  λ b h ok. passed Staying a.shard.0 b a.id.0 a.out.now a.k (sym c.if-stays.false ∙ c.stays.ensures b h ok),
)
