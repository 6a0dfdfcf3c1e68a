use Prim.Native.Nat.{◌<◌}
use mathlib.Core.Path.{refl, ap, sym, ◌∙◌}
use mathlib.Core.Bool.{true}
use native.Mathlib.Omega.{arith}
use borrow.Author.Tests.{not-true, not-false}
use lib.ListN.{length}
use Rattle.types.specs.declared.Place.{Place}
use Rattle.types.specs.declared.Machine.{Machine}
use Rattle.rules.specs.Table.{Entry}
use Rattle.rules.specs.SeatCheck.{is_listed, machines_are_listed}
use Rattle.board.specs.Held.{no_machine}
use Rattle.occupancy.proofs.Walks.{every_ended, every_passed, every_failed}
use Rattle.occupancy.proofs.machines_are_listed.Goals as goal

pub loop-i-init : goal.loop-i-init
unfolding machines_are_listed
loop-i-init c = (
  omega arith,
  c.rows_within-n.ensures.0,
  λ b h ok.
      let n = c.count.ensures b h in
      (c.rows_within-n.ensures.1 (rw n h.fits.machines) ∙ n, refl),
)

pub returns-then-not-is_listed : goal.returns-then-not-is_listed
returns-then-not-is_listed c = λ b h ok.
    let a = c.loop-i in
    let t = a.invariant.2 b h ok in
    let l : a.i < length b.machines = omega (arith, t.0, c.loop-i-test.true) in
    let e = c.is_listed.ensures b h ok ∙ ap (λ (m : Machine). is_listed b m.id.0 m.place) (c.at.ensures b h l) in
    every_failed (λ (e : Entry Place). is_listed b e.key e.val) _ b.machines a.i t.1 no_machine l (sym e ∙ not-true _ c.if-not-is_listed.true-raw)

pub loop-i-preserved : goal.loop-i-preserved
loop-i-preserved c = (
  omega arith,
  c.loop-i.invariant.1,
  λ b h ok.
      let a = c.loop-i in
      let t = a.invariant.2 b h ok in
      let l : a.i < length b.machines = omega (arith, t.0, c.loop-i-test.true) in
      let e = c.is_listed.ensures b h ok ∙ ap (λ (m : Machine). is_listed b m.id.0 m.place) (c.at.ensures b h l) in
      (t.0, every_passed (λ (e : Entry Place). is_listed b e.key e.val) _ b.machines a.i t.1 no_machine l (sym e ∙ not-false _ c.if-not-is_listed.false-raw)),
)

pub returns : goal.returns
returns c = λ b h ok.
    let t = c.loop-i.invariant.2 b h ok in
    every_ended (λ (e : Entry Place). is_listed b e.key e.val) _ b.machines c.loop-i.i t.1 (omega (arith, t.0, c.loop-i-test.false))
