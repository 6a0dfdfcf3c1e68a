use mathlib.Core.Path.{◌≡◌, refl, ap, sym, ◌∙◌}
use mathlib.Core.Bool.{true, not}
use native.Mathlib.Omega.{arith}
use Rattle.types.specs.declared.Machine.{Machine}
use Rattle.rules.specs.SeatCheck.{is_listed}
use Rattle.board.specs.Held.{no_machine}
use Rattle.faults.proofs.Seeking.{inside, found, passed, ended}
use Rattle.faults.proofs.next_unlisted_machine.Goals as goal

pub loop-i-init : goal.loop-i-init
loop-i-init c = (omega arith, c.rows_within-n.ensures.0, λ b h ok. record { rows = c.rows_within-n.ensures.1 (rw (c.count.ensures b h) h.fits.machines) ∙ c.count.ensures b h; left = refl })

pub returns-then-not-is_listed : goal.returns-then-not-is_listed
returns-then-not-is_listed c =
    let a = c.loop-i in (
      a.auto.i,
      λ b h ok.
          let s = a.invariant.2 b h ok in
          let m = inside s c.loop-i-test.true in
          found s no_machine m (sym (ap not (c.is_listed.ensures b h ok ∙ ap (λ (m : Machine). is_listed b m.id.0 m.place) (c.at.ensures b h m))) ∙ c.if-not-is_listed.true-raw),
    )

pub loop-i-preserved : goal.loop-i-preserved
loop-i-preserved c =
    let a = c.loop-i in (
      omega arith,
      a.invariant.1,
      λ b h ok.
          let s = a.invariant.2 b h ok in
          let m = inside s c.loop-i-test.true in
          passed s no_machine m (sym (ap not (c.is_listed.ensures b h ok ∙ ap (λ (m : Machine). is_listed b m.id.0 m.place) (c.at.ensures b h m))) ∙ c.if-not-is_listed.false-raw),
    )

pub returns : goal.returns
returns c =
    let a = c.loop-i in
    let last : c.max.result ≡ a.i = omega (arith, c.max.ensures, a.invariant.0, c.loop-i-test.false) in
    (omega (arith, c.max.ensures), λ b h ok. last ∙ ended (a.invariant.2 b h ok) (omega (arith, c.loop-i-test.false)))
