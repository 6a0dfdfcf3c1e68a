use mathlib.Core.Path.{refl, ◌∙◌}
use native.Mathlib.Omega.{arith}
use lib.ListN.{take, length-set, length-take}
use Rattle.halving.proofs.Halves.{none_stored, half_long, one_stored, all_stored}
use Rattle.halving.proofs.store_half.Goals as goal

pub loop-id-init : goal.loop-id-init
loop-id-init c = (omega arith, refl, λ b h l m. none_stored b _ l c.args.side _ h)

pub push-requires : goal.push-requires
push-requires c = (c.loop-id.invariant.1 ∙ c.requires.0, c.requires.1)

pub loop-id-preserved : goal.loop-id-preserved
loop-id-preserved c = let a = c.loop-id in
    let p = c.args in (
      omega arith,
      c.push.auto.ws ∙ a.invariant.1,
      λ b h l m.
          let d = length-take a.id-index p.half.now in
          let r = half_long b p.i l p.side (take a.id-index p.half.now) in
          one_stored b p.i l p.side p.half.now a.id-index c.loop-id-test.true _ (c.push.ensures _ (a.invariant.2 b h l m) (simp length-set l) (omega (arith, d, r, c.loop-id-test.true))),
    )

pub returns : goal.returns
returns c = λ b h l m.
    let a = c.loop-id in
    let p = c.args in
    all_stored b p.i l p.side p.half.now a.id-index c.loop-id-test.false _ (a.invariant.2 b h l m)
