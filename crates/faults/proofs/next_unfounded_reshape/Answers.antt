use mathlib.Core.Path.{◌≡◌, refl, ap, sym, ◌∙◌}
use mathlib.Core.Bool.{true, not}
use native.Mathlib.Omega.{arith}
use Rattle.board.specs.Held.{no_reshape}
use Rattle.seats.specs.Rows.{reshape_stands}
use Rattle.faults.proofs.Seeking.{inside, found, passed, ended}
use Rattle.faults.proofs.next_unfounded_reshape.Goals as goal

pub loop-i-init : goal.loop-i-init
loop-i-init c = (omega arith, c.rows_within-n.ensures.0, λ b h ok. record { rows = c.rows_within-n.ensures.1 (rw (c.count.ensures b h) h.fits.reshapes) ∙ c.count.ensures b h; left = refl })

pub returns-then-not-reshape_stands : goal.returns-then-not-reshape_stands
returns-then-not-reshape_stands c =
    let a = c.loop-i in (
      a.auto.i,
      λ b h ok.
          let s = a.invariant.2 b h ok in
          let m = inside s c.loop-i-test.true in
          found s no_reshape m (sym (ap not (c.reshape_stands.ensures b h ok m)) ∙ c.if-not-reshape_stands.true-raw),
    )

pub loop-i-preserved : goal.loop-i-preserved
loop-i-preserved c =
    let a = c.loop-i in (
      omega arith,
      a.invariant.1,
      λ b h ok.
          let s = a.invariant.2 b h ok in
          let m = inside s c.loop-i-test.true in
          passed s no_reshape m (sym (ap not (c.reshape_stands.ensures b h ok m)) ∙ c.if-not-reshape_stands.false-raw),
    )

pub returns : goal.returns
returns c =
    let a = c.loop-i in
    let last : c.max.result ≡ a.i = omega (arith, c.max.ensures, a.invariant.0, c.loop-i-test.false) in
    (omega (arith, c.max.ensures), λ b h ok. last ∙ ended (a.invariant.2 b h ok) (omega (arith, c.loop-i-test.false)))
