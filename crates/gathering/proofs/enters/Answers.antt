use Prim.Native.Nat.{◌<◌}
use mathlib.Core.Path.{refl, sym, ◌∙◌}
use native.Mathlib.Omega.{arith}
use lib.ListN.{length}
use Rattle.gathering.proofs.Gathers.{entrant_here, entrant_later, entrant_none}
use Rattle.gathering.proofs.enters.Goals as goal

pub loop-row-init : goal.loop-row-init
loop-row-init c = (omega arith, c.rows-n.ensures.0, λ b h. (c.rows-n.ensures.1 b h, refl))

pub returns-then-enters_at : goal.returns-then-enters_at
returns-then-enters_at c = λ b h.
    let a = c.loop-row in
    let t = a.invariant.2 b h in
    let l : a.row < length b.rotations = omega (arith, t.0, c.loop-row-test.true) in
    sym (entrant_here _ _ b.rotations a.row l (sym c.if-enters_at.true ∙ c.enters_at.ensures b h l)) ∙ t.1

pub loop-row-preserved : goal.loop-row-preserved
loop-row-preserved c = let a = c.loop-row in (
  omega arith,
  a.invariant.1,
  λ b h.
      let t = a.invariant.2 b h in
      let l : a.row < length b.rotations = omega (arith, t.0, c.loop-row-test.true) in
      (t.0, sym (entrant_later _ _ b.rotations a.row l (sym c.if-enters_at.false ∙ c.enters_at.ensures b h l)) ∙ t.1),
)

pub returns : goal.returns
returns c = λ b h.
    let a = c.loop-row in
    let t = a.invariant.2 b h in
    sym (entrant_none _ _ b.rotations a.row (omega (arith, t.0, c.loop-row-test.false))) ∙ t.1
