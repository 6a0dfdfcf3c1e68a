use Prim.Native.Nat.{◌<◌}
use mathlib.Core.Path.{refl, sym, ◌∙◌}
use mathlib.Core.Bool.{true}
use native.Mathlib.Omega.{arith}
use borrow.Author.Tests.{not-true, not-false}
use lib.ListN.{length}
use Rattle.rules.specs.SeatCheck.{scheduled_fit}
use Rattle.board.specs.Held.{no_reshape}
use Rattle.carved.specs.Rows.{split_fits}
use Rattle.occupancy.proofs.Walks.{every_ended, every_passed, every_failed}
use Rattle.carved.proofs.scheduled_fit.Goals as goal

pub loop-i-init : goal.loop-i-init
unfolding scheduled_fit
loop-i-init c = (
  omega arith,
  c.rows_within-n.ensures.0,
  λ b h ok.
      let n = c.count.ensures b h in
      (c.rows_within-n.ensures.1 (rw n h.fits.reshapes) ∙ n, refl),
)

pub returns-then-not-split_fits : goal.returns-then-not-split_fits
returns-then-not-split_fits c = λ b h ok.
    let a = c.loop-i in
    let t = a.invariant.2 b h ok in
    let l : a.i < length b.reshapes = omega (arith, t.0, c.loop-i-test.true) in
    every_failed (split_fits b) _ b.reshapes a.i t.1 no_reshape l (sym (c.split_fits.ensures b h ok l) ∙ not-true _ c.if-not-split_fits.true-raw)

pub loop-i-preserved : goal.loop-i-preserved
loop-i-preserved c = (
  omega arith,
  c.loop-i.invariant.1,
  λ b h ok.
      let a = c.loop-i in
      let t = a.invariant.2 b h ok in
      let l : a.i < length b.reshapes = omega (arith, t.0, c.loop-i-test.true) in
      (t.0, every_passed (split_fits b) _ b.reshapes a.i t.1 no_reshape l (sym (c.split_fits.ensures b h ok l) ∙ not-false _ c.if-not-split_fits.false-raw)),
)

pub returns : goal.returns
returns c = λ b h ok.
    let t = c.loop-i.invariant.2 b h ok in
    every_ended (split_fits b) _ b.reshapes c.loop-i.i t.1 (omega (arith, t.0, c.loop-i-test.false))
