use Rattle.sections.proofs.Rooms.{counted}
use mathlib.Core.Path.{◌≡◌, refl, sym, ap}
use native.Mathlib.Omega.{arith}
use borrow.Author.Tests.{eq-eqb, ne_eqb}
use lib.ListN.{get_or}
use Rattle.rules.specs.Lists.{bit_of}
use Rattle.sections.specs.Tables.{count_in}
use Rattle.sections.proofs.count_with.Goals as goal
use Rattle.sections.proofs.count_with.Goals.{then-number_at-x, else-number_at-x}

pub loop-i-init : goal.loop-i-init
unfolding count_in
loop-i-init c = (omega arith, omega arith, c.number_at-all.ensures, refl)

pub loop-i-preserved : goal.loop-i-preserved
loop-i-preserved c =
    let a = c.args in
    let l = c.loop-i in
    elim c.if-number_at-x.branch [
      | then-number_at-x w ↦
          let n = counted a.w a.k a.x a.t.now _ l.n l.i _ 1 c.row.ensures c.number_at.ensures (sym (ap bit_of (eq-eqb _ _ w.if-number_at-x.true))) l.invariant.3 in
          (omega arith, omega (arith, w.n-is), l.invariant.2, omega (arith, n, w.n-is))
      | else-number_at-x w ↦
          let n = counted a.w a.k a.x a.t.now _ l.n l.i _ 0 c.row.ensures c.number_at.ensures (sym (ap bit_of (ne_eqb _ _ w.if-number_at-x.false))) l.invariant.3 in
          (omega arith, omega (arith, w.n-is), l.invariant.2, omega (arith, n, w.n-is))
    ]

pub returns : goal.returns
returns c = let l = c.loop-i in let z : l.i ≡ get_or c.args.t.now 0 0 = omega (arith, l.invariant.2) in rw z at l.invariant.3
