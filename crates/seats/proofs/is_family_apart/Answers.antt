use Prim.Native.Nat.{◌<◌}
use mathlib.Core.Path.{ap, sym, ◌∙◌}
use mathlib.Core.Bool.{not}
use native.Mathlib.Omega.{arith}
use lib.ListN.{length, get_or}
use Rattle.rules.specs.Moves.{overlaps}
use Rattle.board.specs.Held.{no_reshape}
use Rattle.occupancy.proofs.Walks.{keys_ended, keys_passed, keys_failed}
use Rattle.carved.proofs.Carved.{none_is}
use Rattle.seats.proofs.is_family_apart.Goals as goal

pub loop-k-init : goal.loop-k-init
loop-k-init c = (
  c.rows_within-n.ensures.0,
  λ b h l.
      let n = c.count.ensures b h in
      (c.rows_within-n.ensures.1 (rw n h.fits.reshapes) ∙ n, none_is _ _),
)

pub returns-then-overlaps : goal.returns-then-overlaps
returns-then-overlaps c = λ b h l.
    let a = c.loop-k in
    let t = a.invariant.1 b h l in
    let s = (get_or b.reshapes c.args.i no_reshape).key in
    let m : a.k < length b.reshapes = omega (arith, t.0, c.loop-k-test.true) in
    let e = rw (c.target_at-target.ensures b h l, c.target_at.ensures b h m) at c.overlaps.ensures in
    keys_failed (λ u. not (overlaps s u)) _ b.reshapes a.k t.1 no_reshape m (ap not (sym e ∙ c.if-overlaps.true))

pub loop-k-preserved : goal.loop-k-preserved
loop-k-preserved c = (
  c.loop-k.invariant.0,
  λ b h l.
      let a = c.loop-k in
      let t = a.invariant.1 b h l in
      let s = (get_or b.reshapes c.args.i no_reshape).key in
      let m : a.k < length b.reshapes = omega (arith, t.0, c.loop-k-test.true) in
      let e = rw (c.target_at-target.ensures b h l, c.target_at.ensures b h m) at c.overlaps.ensures in
      (t.0, keys_passed (λ u. not (overlaps s u)) _ b.reshapes a.k t.1 no_reshape m (ap not (sym e ∙ c.if-overlaps.false))),
)

pub returns : goal.returns
returns c = λ b h l.
    let t = c.loop-k.invariant.1 b h l in
    keys_ended (λ u. not (overlaps (get_or b.reshapes c.args.i no_reshape).key u)) _ b.reshapes c.loop-k.k t.1 (omega (arith, t.0, c.loop-k-test.false))
