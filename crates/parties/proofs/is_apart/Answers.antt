use Prim.Native.Nat.{◌<◌}
use mathlib.Core.Path.{refl, ap, sym, ◌∙◌}
use mathlib.Core.Bool.{not}
use native.Mathlib.Omega.{arith}
use lib.ListN.{length}
use Rattle.board.specs.Held.{no_rotation}
use Rattle.shards.specs.Rotations.{rotation_of}
use Rattle.occupancy.proofs.Walks.{every_ended, every_passed, every_failed}
use Rattle.parties.specs.Pairs.{share_party}
use Rattle.parties.proofs.is_apart.Goals as goal

pub loop-k-init : goal.loop-k-init
loop-k-init c = (c.rows-n.ensures.0, λ b h. (c.rows-n.ensures.1 b h, refl))

pub returns-then-share_party : goal.returns-then-share_party
returns-then-share_party c = λ b h.
    let a = c.loop-k in
    let t = a.invariant.1 b h in
    let p = rotation_of c.args.p in
    let l : a.k < length b.rotations = omega (arith, t.0, c.loop-k-test.true) in
    let e = c.share_party.ensures ∙ ap (share_party p) (c.at.ensures b h l) in
    every_failed (λ q. not (share_party p q)) _ b.rotations a.k t.1 no_rotation l (ap not (sym e ∙ c.if-share_party.true))

pub loop-k-preserved : goal.loop-k-preserved
loop-k-preserved c = (
  c.loop-k.invariant.0,
  λ b h.
      let a = c.loop-k in
      let t = a.invariant.1 b h in
      let p = rotation_of c.args.p in
      let l : a.k < length b.rotations = omega (arith, t.0, c.loop-k-test.true) in
      let e = c.share_party.ensures ∙ ap (share_party p) (c.at.ensures b h l) in
      (t.0, every_passed (λ q. not (share_party p q)) _ b.rotations a.k t.1 no_rotation l (ap not (sym e ∙ c.if-share_party.false))),
)

pub returns : goal.returns
returns c = λ b h.
    let t = c.loop-k.invariant.1 b h in
    every_ended (λ q. not (share_party (rotation_of c.args.p) q)) _ b.rotations c.loop-k.k t.1 (omega (arith, t.0, c.loop-k-test.false))
