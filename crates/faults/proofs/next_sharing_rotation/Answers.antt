use mathlib.Core.Path.{◌≡◌, refl, sym, ◌∙◌}
use native.Mathlib.Omega.{arith}
use Rattle.board.specs.Held.{no_rotation}
use Rattle.parties.specs.Pairs.{share_party}
use Rattle.faults.proofs.Seeking.{inside, found, passed, ended}
use Rattle.faults.proofs.Asked.{shares}
use Rattle.faults.proofs.next_sharing_rotation.Goals as goal

pub loop-k-init : goal.loop-k-init
loop-k-init c = (omega arith, c.rows-n.ensures.0, λ b h l. record { rows = c.rows-n.ensures.1 b h; left = refl })

pub returns-then-share_party : goal.returns-then-share_party
returns-then-share_party c =
    let a = c.loop-k in (
      a.auto.k,
      λ b h l.
          let s = a.invariant.2 b h l in
          let m = inside s c.loop-k-test.true in
          found s no_rotation m (sym (shares _ _ _ _ _ c.share_party.ensures (c.at-p.ensures b h l) (c.at.ensures b h m)) ∙ c.if-share_party.true),
    )

pub loop-k-preserved : goal.loop-k-preserved
loop-k-preserved c =
    let a = c.loop-k in (
      omega arith,
      a.invariant.1,
      λ b h l.
          let s = a.invariant.2 b h l in
          let m = inside s c.loop-k-test.true in
          passed s no_rotation m (sym (shares _ _ _ _ _ c.share_party.ensures (c.at-p.ensures b h l) (c.at.ensures b h m)) ∙ c.if-share_party.false),
    )

pub returns : goal.returns
returns c =
    let a = c.loop-k in
    let last : c.max.result ≡ a.k = omega (arith, c.max.ensures, a.invariant.0, c.loop-k-test.false) in
    (omega (arith, c.max.ensures), λ b h l. last ∙ ended (a.invariant.2 b h l) (omega (arith, c.loop-k-test.false)))
