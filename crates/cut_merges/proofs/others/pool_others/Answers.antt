use Prim.Native.Nat.{◌<◌}
use mathlib.Core.Path.{refl, ◌∙◌}
use native.Mathlib.Omega.{arith}
use lib.ListN.{length, get_or}
use Rattle.rules.proofs.KeptBoard.{good_of_lem, of_good}
use Rattle.board.specs.Held.{no_committee}
use Rattle.board.proofs.Keyed.{committees_rise}
use Rattle.board.proofs.Moves.{members_at_lem, members_none}
use Rattle.cut_merges.proofs.Drains.{none_asked, row_stays, committee_stays, members_stay, one_asked, all_asked, nobody, members_room}
use Rattle.cut_merges.proofs.others.pool_others.Goals as goal

pub returns-in_default : goal.returns-in_default
returns-in_default c = λ b h ok l. nobody _ _ b _ (members_none b _ (c.in_default.ensures.found b h ok)) h

pub loop-k-init : goal.loop-k-init
loop-k-init c = (
  omega arith,
  c.rows_within-n.ensures.0,
  refl,
  λ b h ok l.
      let f = c.in-Some.ensures.found b h ok in
      let n = c.member_count.ensures b h f.0 in
      (c.rows_within-n.ensures.1 (rw n (members_room b (good_of_lem b ok) _ f.0)) ∙ n, none_asked _ _ b _ h (good_of_lem b ok)),
)

pub pool_other-requires : goal.pool_other-requires
pool_other-requires c = (c.loop-k.invariant.2 ∙ c.requires.0, c.requires.1, c.in-Some.ensures.room, omega (arith, c.loop-k.invariant.1, c.loop-k-test.true))

pub loop-k-preserved : goal.loop-k-preserved
loop-k-preserved c = let a = c.loop-k in (
  omega arith,
  a.invariant.1,
  c.pool_other.auto.board ∙ a.invariant.2,
  λ b h ok l.
      let m = (c.in-Some.ensures.found b h ok).0 in
      let t = a.invariant.3 b h ok l in
      let u = t.1 in
      let q : a.k < length (get_or b.committees c.in-Some.j no_committee).val = omega (arith, t.0, c.loop-k-test.true) in
      (t.0, one_asked _ _ b _ _ u q _ (c.pool_other.ensures u.board u.held (of_good u.beside.good) (row_stays _ _ b _ _ u l) (committee_stays _ _ b _ _ u m) (members_stay _ _ b _ _ u q))),
)

pub shape_of-board : goal.shape_of-board
shape_of-board c = c.loop-k.invariant.2

pub returns : goal.returns
returns c = λ b h ok l.
    let f = c.in-Some.ensures.found b h ok in
    let t = c.loop-k.invariant.3 b h ok l in
    all_asked _ _ b _ _ t.1 _ (members_at_lem b _ _ (committees_rise b ok) f.0 f.1) (omega (arith, t.0, c.loop-k-test.false))
