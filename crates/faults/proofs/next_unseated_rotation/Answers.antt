use mathlib.Core.Path.{◌≡◌, refl, ap, sym, ◌∙◌}
use mathlib.Core.Bool.{true, not}
use native.Mathlib.Omega.{arith}
use Rattle.board.specs.Held.{no_rotation}
use Rattle.shards.specs.Rotations.{rotation_of}
use Rattle.faults.specs.Firsts.{parties_sit}
use Rattle.faults.proofs.Seeking.{inside, found, passed, ended}
use Rattle.faults.proofs.Asked.{parties_asked}
use Rattle.faults.proofs.next_unseated_rotation.Goals as goal

pub loop-i-init : goal.loop-i-init
loop-i-init c = (omega arith, c.rows-n.ensures.0, λ b h ok. record { rows = c.rows-n.ensures.1 b h; left = refl })

pub returns-then-not-ne-seated : goal.returns-then-not-ne-seated
returns-then-not-ne-seated c =
    let a = c.loop-i in (
      a.auto.i,
      λ b h ok.
          let s = a.invariant.2 b h ok in
          let m = inside s c.loop-i-test.true in
          found s no_rotation m (sym (ap not (parties_asked b (rotation_of c.at-r.result) _ _ _ c.ne.ensures (c.sits_on.ensures b h ok) (c.sits_on-in-loop-i.ensures b h ok) ∙ ap (parties_sit b) (c.at-r.ensures b h m))) ∙ c.if-not-ne-seated.true-raw),
    )

pub loop-i-preserved : goal.loop-i-preserved
loop-i-preserved c =
    let a = c.loop-i in (
      omega arith,
      a.invariant.1,
      λ b h ok.
          let s = a.invariant.2 b h ok in
          let m = inside s c.loop-i-test.true in
          passed s no_rotation m (sym (ap not (parties_asked b (rotation_of c.at-r.result) _ _ _ c.ne.ensures (c.sits_on.ensures b h ok) (c.sits_on-in-loop-i.ensures b h ok) ∙ ap (parties_sit b) (c.at-r.ensures b h m))) ∙ c.if-not-ne-seated.false-raw),
    )

pub returns : goal.returns
returns c =
    let a = c.loop-i in
    let last : c.max.result ≡ a.i = omega (arith, c.max.ensures, a.invariant.0, c.loop-i-test.false) in
    (omega (arith, c.max.ensures), λ b h ok. last ∙ ended (a.invariant.2 b h ok) (omega (arith, c.loop-i-test.false)))
