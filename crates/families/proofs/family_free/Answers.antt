use Prim.Native.Nat.{◌<◌}
use mathlib.Core.Path.{refl, ◌∙◌}
use native.Mathlib.Omega.{arith}
use lib.ListN.{length}
use Rattle.families.proofs.Refusing.{family_found, family_passed, family_ended}
use Rattle.families.proofs.family_free.Goals as goal

pub loop-i-init : goal.loop-i-init
loop-i-init c = (
  omega arith,
  c.rows_within-n.ensures.0,
  λ b h.
      let n = c.count.ensures b h in
      (c.rows_within-n.ensures.1 (rw n h.fits.reshapes) ∙ n, refl),
)

pub returns-then-overlaps : goal.returns-then-overlaps
returns-then-overlaps c = λ b h.
    let v = c.loop-i.invariant.2 b h in
    let l : c.loop-i.i < length b.reshapes = omega (arith, v.0, c.loop-i-test.true) in
    family_found c.args.target.0 b _ v.1 l _ (c.target_at.ensures b h l) _ c.overlaps.ensures c.if-overlaps.true

pub loop-i-preserved : goal.loop-i-preserved
loop-i-preserved c = (
  omega arith,
  c.loop-i.invariant.1,
  λ b h.
      let v = c.loop-i.invariant.2 b h in
      let l : c.loop-i.i < length b.reshapes = omega (arith, v.0, c.loop-i-test.true) in
      (v.0, family_passed c.args.target.0 b _ v.1 l _ (c.target_at.ensures b h l) _ c.overlaps.ensures c.if-overlaps.false),
)

pub returns : goal.returns
returns c = λ b h.
    let v = c.loop-i.invariant.2 b h in
    family_ended c.args.target.0 b c.loop-i.i v.1 (omega (arith, v.0, c.loop-i-test.false))
