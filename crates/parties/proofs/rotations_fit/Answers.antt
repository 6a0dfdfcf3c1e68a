use Prim.Native.Nat.{◌<◌}
use mathlib.Core.Path.{refl, sym, ◌∙◌}
use mathlib.Core.Bool.{true}
use native.Mathlib.Omega.{arith}
use borrow.Author.Tests.{not-true, not-false}
use lib.ListN.{length}
use Rattle.board.specs.Held.{no_rotation}
use Rattle.occupancy.proofs.Walks.{walk_ended, walk_passed, walk_failed}
use Rattle.parties.specs.Pairs.{fits_before}
use Rattle.parties.proofs.Pairs.{pairwise, pairs_are}
use Rattle.parties.proofs.rotations_fit.Goals as goal

pub loop-i-init : goal.loop-i-init
loop-i-init c = (omega arith, c.rows-n.ensures.0, λ b h ok. (c.rows-n.ensures.1 b h, pairs_are b))

pub returns-then-not-parties_fit : goal.returns-then-not-parties_fit
returns-then-not-parties_fit c = λ b h ok.
    let a = c.loop-i in
    let t = a.invariant.2 b h ok in
    let l : a.i < length b.rotations = omega (arith, t.0, c.loop-i-test.true) in
    walk_failed (pairwise b) (fits_before b) refl (λ r l. refl) _ b.rotations a.i t.1 no_rotation l (sym (c.parties_fit.ensures b h ok l) ∙ not-true _ c.if-not-parties_fit.true-raw)

pub loop-i-preserved : goal.loop-i-preserved
loop-i-preserved c = (
  omega arith,
  c.loop-i.invariant.1,
  λ b h ok.
      let a = c.loop-i in
      let t = a.invariant.2 b h ok in
      let l : a.i < length b.rotations = omega (arith, t.0, c.loop-i-test.true) in
      (t.0, walk_passed (pairwise b) (fits_before b) refl (λ r l. refl) _ b.rotations a.i t.1 no_rotation l (sym (c.parties_fit.ensures b h ok l) ∙ not-false _ c.if-not-parties_fit.false-raw)),
)

pub returns : goal.returns
returns c = λ b h ok.
    let t = c.loop-i.invariant.2 b h ok in
    walk_ended (pairwise b) (fits_before b) refl (λ r l. refl) _ b.rotations c.loop-i.i t.1 (omega (arith, t.0, c.loop-i-test.false))
