use Prim.Native.Nat.{◌<◌}
use mathlib.Core.Path.{refl, ◌∙◌}
use native.Mathlib.Omega.{arith}
use lib.ListN.{length}
use Rattle.rules.proofs.KeptBoard.{family, good_of_lem, of_good}
use Rattle.arriving.specs.Coming.{reshape_in}
use Rattle.arriving.proofs.Comes.{row_fit}
use Rattle.cut_merges.proofs.Rejoins.{none_joined, row_stays, seats_stay, may_come, one_joined, all_joined}
use Rattle.cut_merges.proofs.keepers.rejoin_all.Goals as goal

pub loop-k-init : goal.loop-k-init
loop-k-init c = (
  omega arith,
  c.rows_within-n.ensures.0,
  refl,
  λ b h ok l tg e.
      let f = row_fit b ok _ l in
      let n = c.count.ensures b h l in
      (c.rows_within-n.ensures.1 (rw n f.seats.room) ∙ n, none_joined _ _ b _ h (good_of_lem b ok) (family c.args.target.0 tg).target e f.seats.room),
)

pub rejoin-requires : goal.rejoin-requires
rejoin-requires c = (c.loop-k.invariant.2 ∙ c.requires.0, c.requires.1, c.requires.2, omega (arith, c.loop-k.invariant.1, c.loop-k-test.true))

pub loop-k-preserved : goal.loop-k-preserved
loop-k-preserved c = let a = c.loop-k in (
  omega arith,
  a.invariant.1,
  c.rejoin.auto.board ∙ a.invariant.2,
  λ b h ok l tg e.
      let g = c.args in
      let t = a.invariant.3 b h ok l tg e in
      let u = t.1 in
      let q : a.k < length (reshape_in g.i b).seats = omega (arith, t.0, c.loop-k-test.true) in
      (t.0, one_joined g.target.0 g.i b _ _ u q (family g.target.0 tg).least _ (c.rejoin.ensures u.board u.held (of_good u.way.good) (row_stays g.target.0 g.i b _ _ u l) tg (seats_stay g.target.0 g.i b _ _ u q) (may_come g.target.0 g.i b _ _ u q))),
)

pub shape_of-board : goal.shape_of-board
shape_of-board c = c.loop-k.invariant.2

pub returns : goal.returns
returns c = λ b h ok l tg e.
    let t = c.loop-k.invariant.3 b h ok l tg e in
    all_joined _ _ b _ _ t.1 (omega (arith, t.0, c.loop-k-test.false))
