use Prim.Native.Nat.{◌<◌}
use mathlib.Core.Path.{ap, sym, ◌∙◌}
use mathlib.Core.Bool.{true}
use native.Mathlib.Omega.{arith}
use borrow.Author.Tests.{not-true, not-false}
use lib.ListN.{length, get_or}
use Rattle.types.specs.Places.{observes}
use Rattle.rules.specs.Table.{Entry}
use Rattle.rules.specs.Board.{Seat}
use Rattle.rules.specs.Moves.{says}
use Rattle.board.specs.Held.{no_reshape, no_seat}
use Rattle.reshapes.proofs.OfReshapes.{seats_room}
use Rattle.occupancy.proofs.Walks.{keys_ended, keys_passed, keys_failed}
use Rattle.occupancy.proofs.Occupied.{says_watches, merge_watches, split_watches}
use Rattle.occupancy.proofs.cohort_watches.Goals as goal

pub returns-then-is_merge : goal.returns-then-is_merge
returns-then-is_merge c = λ b h ok l. merge_watches b _ (sym (c.is_merge.ensures b h l) ∙ c.if-is_merge.true)

pub loop-k-init : goal.loop-k-init
loop-k-init c = (
  omega arith,
  c.rows_within-n.ensures.0,
  λ b h ok l.
      let n = c.count.ensures b h l in
      (c.rows_within-n.ensures.1 (rw n (seats_room _ b h _ l)) ∙ n, split_watches b _ (sym (c.is_merge.ensures b h l) ∙ c.if-is_merge.false)),
)

pub returns-then-not-observes_shard : goal.returns-then-not-observes_shard
returns-then-not-observes_shard c = λ b h ok l.
    let a = c.loop-k in
    let t = a.invariant.2 b h ok l in
    let row = get_or b.reshapes c.args.i no_reshape in
    let m : a.k < length row.val.seats = omega (arith, t.0, c.loop-k-test.true) in
    let e = says_watches b _ _ _ (c.place_of-p.ensures b h ok) _ _ (ap (λ (q : Entry Seat). q.key) (c.at-seat.ensures b h l m)) (c.target_at-target.ensures b h l) _ c.observes_shard.ensures in
    keys_failed (says (observes row.key) b) _ row.val.seats a.k t.1 no_seat m (sym e ∙ not-true _ c.if-not-observes_shard.true-raw)

pub loop-k-preserved : goal.loop-k-preserved
loop-k-preserved c = (
  omega arith,
  c.loop-k.invariant.1,
  λ b h ok l.
      let a = c.loop-k in
      let t = a.invariant.2 b h ok l in
      let row = get_or b.reshapes c.args.i no_reshape in
      let m : a.k < length row.val.seats = omega (arith, t.0, c.loop-k-test.true) in
      let e = says_watches b _ _ _ (c.place_of-p.ensures b h ok) _ _ (ap (λ (q : Entry Seat). q.key) (c.at-seat.ensures b h l m)) (c.target_at-target.ensures b h l) _ c.observes_shard.ensures in
      (t.0, keys_passed (says (observes row.key) b) _ row.val.seats a.k t.1 no_seat m (sym e ∙ not-false _ c.if-not-observes_shard.false-raw)),
)

pub returns : goal.returns
returns c = λ b h ok l.
    let t = c.loop-k.invariant.2 b h ok l in
    let row = get_or b.reshapes c.args.i no_reshape in
    keys_ended (says (observes row.key) b) _ row.val.seats c.loop-k.k t.1 (omega (arith, t.0, c.loop-k-test.false))
