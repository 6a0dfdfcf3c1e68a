use Prim.Native.Nat.{◌<◌}
use mathlib.Core.Path.{refl, ◌∙◌}
use mathlib.Core.Bool.{false}
use native.Mathlib.Omega.{arith}
use borrow.Author.Count.{below_more}
use lib.ListN.{length-set, length}
use lib.Seq.{get_or-set_same, get_or-set_other}
use Rattle.resolving.proofs.marks_of.Goals as goal

pub loop-i-init : goal.loop-i-init
loop-i-init c = (omega arith, c.rows-n.ensures.0, refl, λ b h ok. (c.rows-n.ensures.1 b h, λ j z. absurd (omega arith)))

pub loop-i-preserved : goal.loop-i-preserved
loop-i-preserved c = let a = c.loop-i in (
  omega arith,
  a.invariant.1,
  rw length-set a.invariant.2,
  λ b h ok.
      let t = a.invariant.3 b h ok in
      let l : a.i < length b.rotations = omega (arith, t.0, c.loop-i-test.true) in (
        t.0,
        below_more _ _ (λ j z. get_or-set_other a.marks a.i j c.is_resolved.result false (λ e. omega arith) ∙ t.1 j z)
            (get_or-set_same a.marks a.i c.is_resolved.result false (omega (arith, a.invariant.2)) ∙ c.is_resolved.ensures b h ok l),
      ),
)

pub returns : goal.returns
returns c = λ b h ok j z. let t = c.loop-i.invariant.3 b h ok in t.1 j (omega (arith, t.0))
