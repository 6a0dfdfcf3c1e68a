use Prim.Native.Nat.{◌+◌, ◌<◌}
use mathlib.Core.Path.{refl, sym, ◌∙◌}
use native.Mathlib.Omega.{arith}
use lib.ListN.{length}
use Rattle.rules.proofs.KeptBoard.{good_of_lem, of_good}
use Rattle.arriving.specs.Coming.{reshape_in}
use Rattle.arriving.proofs.Comes.{row_fit}
use Rattle.reshapes.specs.Changes.{half_of}
use Rattle.cut_splits.proofs.Children.{child_shard, child_apart, half_room, none_came, row_stays, half_stays, seats_stay, may_come, one_came, all_came}
use Rattle.cut_splits.proofs.settle.settle_child.Goals as goal

pub loop-k-init : goal.loop-k-init
loop-k-init c = (
  omega arith,
  c.half_count-n.ensures.0,
  omega (arith, c.rows_within.ensures.0),
  refl,
  λ b h ok l tg e.
      let a = c.args in
      let f = row_fit b ok _ l in
      let m = c.count.ensures b h l in
      let n = c.rows_within.ensures.1 (rw m f.seats.room) ∙ m in
      let w = c.child_of-child.ensures in
      (c.half_count-n.ensures.1 b h ok l, omega (arith, n), none_came _ _ a.side a.i b _ h (good_of_lem b ok) (rw w (child_shard a.side a.target.0 tg)) (rw w e) (half_room a.side f) f.seats.room),
)

pub settle_next-requires : goal.settle_next-requires
settle_next-requires c = (c.loop-k.invariant.3 ∙ c.requires.0, c.requires.1, c.loop-k.invariant.1, omega (arith, c.loop-k.invariant.2, c.loop-k-test.true))

pub loop-k-preserved : goal.loop-k-preserved
loop-k-preserved c = let a = c.loop-k in (
  omega arith,
  a.invariant.1,
  a.invariant.2,
  c.settle_next.auto.board ∙ a.invariant.3,
  λ b h ok l tg e.
      let g = c.args in
      let t = a.invariant.4 b h ok l tg e in
      let u = t.2 in
      let m : a.k < length (half_of g.side (reshape_in g.i b)) + length (reshape_in g.i b).seats = omega (arith, t.0, t.1, c.loop-k-test.true) in
      let n = rw (sym c.child_of-child.ensures) at (child_apart g.side g.target.0 tg) in
      let q = row_stays _ _ g.side g.i b _ _ u l in
      let d = half_stays _ _ g.side g.i b _ _ u _ t.0 in
      let r = seats_stay _ _ g.side g.i b _ _ u _ t.0 (omega (arith, m, t.0)) in
      (t.0, t.1, one_came _ _ g.side g.i b _ _ u m n _ (c.settle_next.ensures u.board u.held (of_good u.way.good) q n d r (may_come _ _ g.side g.i b _ _ u m))),
)

pub shape_of-board : goal.shape_of-board
shape_of-board c = c.loop-k.invariant.3

pub returns : goal.returns
returns c = λ b h ok l tg e.
    let a = c.loop-k in
    let g = c.args in
    let t = a.invariant.4 b h ok l tg e in
    rw c.child_of-child.ensures at (all_came _ _ g.side g.i b _ _ t.2 (omega (arith, t.0, t.1, c.loop-k-test.false)))
