use Prim.Native.Nat.{◌<◌}
use mathlib.Core.Path.{refl, ap, sym, ◌∙◌}
use native.Mathlib.Omega.{arith}
use borrow.Author.Tests.{not-true, not-false}
use lib.ListN.{length, get_or}
use Rattle.types.specs.declared.Machine.{Machine}
use Rattle.rules.specs.SeatCheck.{is_in_one_half}
use Rattle.board.specs.Held.{no_machine, no_reshape}
use Rattle.board.specs.Leaves.{machine_entry}
use Rattle.occupancy.proofs.Walks.{every_ended, every_passed, every_failed}
use Rattle.carved.proofs.halves_fit.Goals as goal

pub loop-k-init : goal.loop-k-init
loop-k-init c = (
  omega arith,
  c.rows_within-n.ensures.0,
  λ b h l.
      let n = c.count.ensures b h in
      (c.rows_within-n.ensures.1 (rw n h.fits.machines) ∙ n, refl),
)

pub returns-then-not-is_in_one_half : goal.returns-then-not-is_in_one_half
returns-then-not-is_in_one_half c = λ b h l.
    let a = c.loop-k in
    let t = a.invariant.2 b h l in
    let g = is_in_one_half c.args.target.0 (get_or b.reshapes c.args.i no_reshape).val in
    let m : a.k < length b.machines = omega (arith, t.0, c.loop-k-test.true) in
    let e = c.is_in_one_half.ensures b h l ∙ ap (λ (m : Machine). g (machine_entry m)) (c.at.ensures b h m) in
    every_failed g _ b.machines a.k t.1 no_machine m (sym e ∙ not-true _ c.if-not-is_in_one_half.true-raw)

pub loop-k-preserved : goal.loop-k-preserved
loop-k-preserved c = (
  omega arith,
  c.loop-k.invariant.1,
  λ b h l.
      let a = c.loop-k in
      let t = a.invariant.2 b h l in
      let g = is_in_one_half c.args.target.0 (get_or b.reshapes c.args.i no_reshape).val in
      let m : a.k < length b.machines = omega (arith, t.0, c.loop-k-test.true) in
      let e = c.is_in_one_half.ensures b h l ∙ ap (λ (m : Machine). g (machine_entry m)) (c.at.ensures b h m) in
      (t.0, every_passed g _ b.machines a.k t.1 no_machine m (sym e ∙ not-false _ c.if-not-is_in_one_half.false-raw)),
)

pub returns : goal.returns
returns c = λ b h l.
    let t = c.loop-k.invariant.2 b h l in
    every_ended (is_in_one_half c.args.target.0 (get_or b.reshapes c.args.i no_reshape).val) _ b.machines c.loop-k.k t.1 (omega (arith, t.0, c.loop-k-test.false))
