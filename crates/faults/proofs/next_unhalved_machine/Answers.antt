use mathlib.Core.Path.{◌≡◌, refl, sym, ◌∙◌}
use native.Mathlib.Omega.{arith}
use Rattle.board.specs.Held.{no_machine}
use Rattle.faults.proofs.Seeking.{inside, found, passed, ended}
use Rattle.faults.proofs.Asked.{machine_asked}
use Rattle.faults.proofs.next_unhalved_machine.Goals as goal

pub loop-k-init : goal.loop-k-init
loop-k-init c = (omega arith, c.rows_within-n.ensures.0, λ b h l. record { rows = c.rows_within-n.ensures.1 (rw (c.count.ensures b h) h.fits.machines) ∙ c.count.ensures b h; left = refl })

pub returns-then-scheduled-is_in_one_half : goal.returns-then-scheduled-is_in_one_half
returns-then-scheduled-is_in_one_half c =
    let a = c.loop-k in (
      a.auto.k,
      λ b h l.
          let s = a.invariant.2 b h l in
          let m = inside s c.loop-k-test.true in
          found s no_machine m (sym (machine_asked _ _ _ (c.is_merge.ensures b h l) (c.is_scheduled.ensures b h l) _ _ (rw (c.target_at-target.ensures b h l, c.at.ensures b h m) at (c.is_in_one_half.ensures b h l))) ∙ c.if-scheduled-is_in_one_half.true),
    )

pub loop-k-preserved : goal.loop-k-preserved
loop-k-preserved c =
    let a = c.loop-k in (
      omega arith,
      a.invariant.1,
      λ b h l.
          let s = a.invariant.2 b h l in
          let m = inside s c.loop-k-test.true in
          passed s no_machine m (sym (machine_asked _ _ _ (c.is_merge.ensures b h l) (c.is_scheduled.ensures b h l) _ _ (rw (c.target_at-target.ensures b h l, c.at.ensures b h m) at (c.is_in_one_half.ensures b h l))) ∙ c.if-scheduled-is_in_one_half.false),
    )

pub returns : goal.returns
returns c =
    let a = c.loop-k in
    let last : c.max.result ≡ a.k = omega (arith, c.max.ensures, a.invariant.0, c.loop-k-test.false) in
    (omega (arith, c.max.ensures), λ b h l. last ∙ ended (a.invariant.2 b h l) (omega (arith, c.loop-k-test.false)))
