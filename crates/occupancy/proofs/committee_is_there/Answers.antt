use Prim.Native.Nat.{◌<◌}
use mathlib.Core.Path.{refl, sym, ◌∙◌}
use mathlib.Core.Bool.{true}
use native.Mathlib.Omega.{arith}
use borrow.Author.Tests.{not-true, not-false}
use lib.ListN.{length, get_or}
use Rattle.rules.specs.Moves.{says}
use Rattle.board.specs.Held.{no_committee}
use Rattle.board.proofs.OfCommittees.{members_room}
use Rattle.occupancy.specs.Rows.{is_here}
use Rattle.occupancy.proofs.Walks.{every_ended, every_passed, every_failed}
use Rattle.occupancy.proofs.Occupied.{says_here}
use Rattle.occupancy.proofs.committee_is_there.Goals as goal

pub loop-k-init : goal.loop-k-init
loop-k-init c = (
  omega arith,
  c.rows_within-n.ensures.0,
  λ b h ok l.
      let n = c.member_count.ensures b h l in
      (c.rows_within-n.ensures.1 (rw n (members_room _ b h _ l)) ∙ n, refl),
)

pub returns-then-not-is_seated_on-observes_shard : goal.returns-then-not-is_seated_on-observes_shard
returns-then-not-is_seated_on-observes_shard c = λ b h ok l.
    let a = c.loop-k in
    let t = a.invariant.2 b h ok l in
    let row = get_or b.committees c.args.j no_committee in
    let m : a.k < length row.val = omega (arith, t.0, c.loop-k-test.true) in
    let e = says_here b _ _ _ (c.place_of-p.ensures b h ok) _ _ (c.member_at.ensures b h l (omega arith)) (c.shard_at-shard.ensures b h l) _ _ c.is_seated_on.ensures c.observes_shard.ensures in
    every_failed (says (is_here row.key) b) _ row.val a.k t.1 0 m (sym e ∙ not-true _ c.if-not-is_seated_on-observes_shard.true-raw)

pub loop-k-preserved : goal.loop-k-preserved
loop-k-preserved c = (
  omega arith,
  c.loop-k.invariant.1,
  λ b h ok l.
      let a = c.loop-k in
      let t = a.invariant.2 b h ok l in
      let row = get_or b.committees c.args.j no_committee in
      let m : a.k < length row.val = omega (arith, t.0, c.loop-k-test.true) in
      let e = says_here b _ _ _ (c.place_of-p.ensures b h ok) _ _ (c.member_at.ensures b h l (omega arith)) (c.shard_at-shard.ensures b h l) _ _ c.is_seated_on.ensures c.observes_shard.ensures in
      (t.0, every_passed (says (is_here row.key) b) _ row.val a.k t.1 0 m (sym e ∙ not-false _ c.if-not-is_seated_on-observes_shard.false-raw)),
)

pub returns : goal.returns
returns c = λ b h ok l.
    let t = c.loop-k.invariant.2 b h ok l in
    let row = get_or b.committees c.args.j no_committee in
    every_ended (says (is_here row.key) b) _ row.val c.loop-k.k t.1 (omega (arith, t.0, c.loop-k-test.false))
