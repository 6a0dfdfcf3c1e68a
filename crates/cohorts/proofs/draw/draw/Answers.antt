use mathlib.Core.Path.{refl, sym}
use native.Mathlib.Omega.{arith}
use Rattle.rules.proofs.Tests.{and_parts, le_of}
use Rattle.cohorts.proofs.Draws.{no_target, not_there}
use Rattle.cohorts.proofs.draw.draw.Goals as goal

pub returns-then-not-is_target : goal.returns-then-not-is_target
returns-then-not-is_target c = λ b h ok. no_target b ok _ _ _ _ (sym c.if-not-is_target.ensures) h refl

pub returns-in_default : goal.returns-in_default
returns-in_default c = λ b h ok. not_there b ok _ _ _ _ (sym c.if-not-is_target.ensures) (c.in_default.ensures.found b h ok) h refl

pub draw_for-requires : goal.draw_for-requires
draw_for-requires c = (c.requires, c.in-Some.ensures.room, omega (arith, le_of c.args.target.0 32767 (and_parts _ _ (sym c.if-not-is_target.ensures)).1))

pub returns : goal.returns
returns c = λ b h ok.
    let f = c.in-Some.ensures.found b h ok in
    c.draw_for.ensures b h ok (sym c.if-not-is_target.ensures) f.inside f.named f.awaits
