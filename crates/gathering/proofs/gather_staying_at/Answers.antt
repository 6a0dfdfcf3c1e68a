use Prim.Native.Nat.{◌<◌}
use mathlib.Core.Path.{refl, sym, ◌∙◌}
use native.Mathlib.Omega.{arith}
use lib.ListN.{length, get_or}
use Rattle.board.specs.Held.{roomy_committee, no_committee}
use Rattle.board.proofs.Fitting.{every_at}
use Rattle.board.proofs.OfCommittees.{room_of}
use Rattle.gathering.proofs.Gathers.{one_more, all_kept}
use Rattle.gathering.proofs.gather_staying_at.Goals as goal

pub loop-i-init : goal.loop-i-init
loop-i-init c = (
  omega arith,
  c.rows_within-n.ensures.0,
  omega arith,
  c.requires.2,
  λ b h ok l.
      let n = c.member_count.ensures b h l in
      (c.rows_within-n.ensures.1 (rw n (room_of _ (every_at roomy_committee b.committees _ no_committee h.fits.members l))) ∙ n, record { whole = refl }),
)

pub loop-i-preserved : goal.loop-i-preserved
loop-i-preserved c =
    let a = c.loop-i in
    let t = c.take_staying-k.ensures in (
      omega arith,
      a.invariant.1,
      omega (arith, t.0),
      t.1,
      λ b h ok l.
          let v = a.invariant.4 b h ok l in
          let m : a.i < length (get_or b.committees c.args.j no_committee).val = omega (arith, v.0, c.loop-i-test.true) in
          (v.0, one_more v.1 m (c.member_at.ensures b h l m) (t.2 b h ok)),
    )

pub shape_of-out : goal.shape_of-out
shape_of-out c = c.loop-i.invariant.3 ∙ sym c.requires.2

pub returns : goal.returns
returns c =
    let a = c.loop-i in (
      omega arith,
      a.invariant.3,
      λ b h ok l.
          let v = a.invariant.4 b h ok l in
          all_kept v.1 (omega (arith, v.0, c.loop-i-test.false)),
    )
