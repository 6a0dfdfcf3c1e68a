use mathlib.Core.Path.{◌≡◌, refl, sym, ◌∙◌}
use native.Mathlib.Omega.{arith}
use Rattle.board.specs.Held.{no_rotation}
use Rattle.shards.specs.Rotations.{rotation_of}
use Rattle.faults.proofs.Seeking.{inside, found, passed, ended}
use Rattle.faults.proofs.Asked.{rotation_asked}
use Rattle.faults.proofs.next_rotation_there.Goals as goal

pub loop-k-init : goal.loop-k-init
loop-k-init c = (omega arith, c.rows-n.ensures.0, λ b h l. record { rows = c.rows-n.ensures.1 b h; left = refl })

pub returns-then-scheduled-eq : goal.returns-then-scheduled-eq
returns-then-scheduled-eq c =
    let a = c.loop-k in (
      a.auto.k,
      λ b h l.
          let s = a.invariant.2 b h l in
          let m = inside s c.loop-k-test.true in
          found s no_rotation m (sym (rotation_asked _ _ _ (c.is_merge.ensures b h l) (c.is_scheduled.ensures b h l) _ (rotation_of c.at-r.result) _ _ c.eq.ensures (c.target_at-target.ensures b h l) (c.at-r.ensures b h m)) ∙ c.if-scheduled-eq.true),
    )

pub loop-k-preserved : goal.loop-k-preserved
loop-k-preserved c =
    let a = c.loop-k in (
      omega arith,
      a.invariant.1,
      λ b h l.
          let s = a.invariant.2 b h l in
          let m = inside s c.loop-k-test.true in
          passed s no_rotation m (sym (rotation_asked _ _ _ (c.is_merge.ensures b h l) (c.is_scheduled.ensures b h l) _ (rotation_of c.at-r.result) _ _ c.eq.ensures (c.target_at-target.ensures b h l) (c.at-r.ensures b h m)) ∙ c.if-scheduled-eq.false),
    )

pub returns : goal.returns
returns c =
    let a = c.loop-k in
    let last : c.max.result ≡ a.k = omega (arith, c.max.ensures, a.invariant.0, c.loop-k-test.false) in
    (omega (arith, c.max.ensures), λ b h l. last ∙ ended (a.invariant.2 b h l) (omega (arith, c.loop-k-test.false)))
