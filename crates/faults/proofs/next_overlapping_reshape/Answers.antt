use mathlib.Core.Path.{◌≡◌, refl, sym, ◌∙◌}
use native.Mathlib.Omega.{arith}
use Rattle.rules.specs.Moves.{overlaps}
use Rattle.board.specs.Held.{no_reshape}
use Rattle.faults.proofs.Seeking.{inside, found, passed, ended}
use Rattle.faults.proofs.Asked.{unless}
use Rattle.faults.proofs.next_overlapping_reshape.Goals as goal

pub loop-k-init : goal.loop-k-init
loop-k-init c = (omega arith, c.rows_within-n.ensures.0, λ b h l. record { rows = c.rows_within-n.ensures.1 (rw (c.count.ensures b h) h.fits.reshapes) ∙ c.count.ensures b h; left = refl })

pub returns-then-overlaps : goal.returns-then-overlaps
returns-then-overlaps c =
    let a = c.loop-k in (
      a.auto.k,
      λ b h l.
          let s = a.invariant.2 b h l in
          let m = inside s c.loop-k-test.true in
          found s no_reshape m (sym (unless _ _ (rw (c.target_at-target.ensures b h l, c.target_at.ensures b h m) at c.overlaps.ensures)) ∙ c.if-overlaps.true),
    )

pub loop-k-preserved : goal.loop-k-preserved
loop-k-preserved c =
    let a = c.loop-k in (
      omega arith,
      a.invariant.1,
      λ b h l.
          let s = a.invariant.2 b h l in
          let m = inside s c.loop-k-test.true in
          passed s no_reshape m (sym (unless _ _ (rw (c.target_at-target.ensures b h l, c.target_at.ensures b h m) at c.overlaps.ensures)) ∙ c.if-overlaps.false),
    )

pub returns : goal.returns
returns c =
    let a = c.loop-k in
    let last : c.max.result ≡ a.k = omega (arith, c.max.ensures, a.invariant.0, c.loop-k-test.false) in
    (omega (arith, c.max.ensures), λ b h l. last ∙ ended (a.invariant.2 b h l) (omega (arith, c.loop-k-test.false)))
