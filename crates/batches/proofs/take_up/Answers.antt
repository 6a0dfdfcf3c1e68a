use Prim.Native.Nat.{◌<◌}
use mathlib.Core.Path.{sym, ◌∙◌}
use native.Mathlib.Omega.{arith}
use lib.ListN.{length, length-set}
use Rattle.batches.proofs.Wanted.{added, passed}
use Rattle.batches.proofs.take_up.Goals as goal

pub returns-then-is_wanted : goal.returns-then-is_wanted
returns-then-is_wanted c =
    let a = c.args in
    let l : a.k < length a.out.now = omega (arith, c.requires.2, c.requires.3) in (
      omega arith,
      length-set a.out.now a.k c.target_at-target.result.0 ∙ c.requires.2,
      λ b h i. added a.which a.epoch.0 _ a.out.now a.k _ (sym c.if-is_wanted.true ∙ c.is_wanted.ensures b h i) (c.target_at-target.ensures b h i) l,
    )

pub returns : goal.returns
returns c =
    let a = c.args in (
      omega arith,
      c.requires.2,
      λ b h i. passed a.which a.epoch.0 _ a.out.now a.k (sym c.if-is_wanted.false ∙ c.is_wanted.ensures b h i),
    )
