use Prim.Native.Nat.{◌<◌}
use mathlib.Core.Path.{refl, sym, ◌∙◌}
use mathlib.Core.Bool.{true}
use native.Mathlib.Omega.{arith}
use borrow.Author.Tests.{not-true, not-false}
use lib.ListN.{length}
use Rattle.rules.specs.SeatCheck.{members_are_there}
use Rattle.board.specs.Held.{no_committee}
use Rattle.occupancy.specs.Rows.{committee_is_there}
use Rattle.occupancy.proofs.Walks.{every_ended, every_passed, every_failed}
use Rattle.occupancy.proofs.members_are_there.Goals as goal

pub loop-j-init : goal.loop-j-init
unfolding members_are_there
loop-j-init c = (
  omega arith,
  c.rows_within-n.ensures.0,
  λ b h ok.
      let n = c.count.ensures b h in
      (c.rows_within-n.ensures.1 (rw n h.fits.committees) ∙ n, refl),
)

pub returns-then-not-committee_is_there : goal.returns-then-not-committee_is_there
returns-then-not-committee_is_there c = λ b h ok.
    let a = c.loop-j in
    let t = a.invariant.2 b h ok in
    let l : a.j < length b.committees = omega (arith, t.0, c.loop-j-test.true) in
    every_failed (committee_is_there b) _ b.committees a.j t.1 no_committee l (sym (c.committee_is_there.ensures b h ok l) ∙ not-true _ c.if-not-committee_is_there.true-raw)

pub loop-j-preserved : goal.loop-j-preserved
loop-j-preserved c = (
  omega arith,
  c.loop-j.invariant.1,
  λ b h ok.
      let a = c.loop-j in
      let t = a.invariant.2 b h ok in
      let l : a.j < length b.committees = omega (arith, t.0, c.loop-j-test.true) in
      (t.0, every_passed (committee_is_there b) _ b.committees a.j t.1 no_committee l (sym (c.committee_is_there.ensures b h ok l) ∙ not-false _ c.if-not-committee_is_there.false-raw)),
)

pub returns : goal.returns
returns c = λ b h ok.
    let t = c.loop-j.invariant.2 b h ok in
    every_ended (committee_is_there b) _ b.committees c.loop-j.j t.1 (omega (arith, t.0, c.loop-j-test.false))
