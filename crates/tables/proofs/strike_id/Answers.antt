use Prim.Native.Nat.{◌+◌}
use mathlib.Core.Path.{◌≡◌, refl, ◌∙◌}
use mathlib.Core.Bool.{not}
use native.Mathlib.Omega.{arith}
use lib.Dec.{eqb}
use lib.ListN.{get_or, length-set}
use Rattle.rules.specs.Lists.{bit_of}
use Rattle.rules.proofs.Counts.{eqb_apart}
use Rattle.rules.proofs.Tests.{of_eq}
use Rattle.tables.proofs.Ids.{id_count}
use Rattle.tables.proofs.Sifted.{striking_none, striking_more, striking_all}
use Rattle.tables.proofs.strike_id.Goals.{then-y-x, else-y-x}
use Rattle.tables.proofs.strike_id.Goals as goal

pub loop-i-init : goal.loop-i-init
loop-i-init c =
    let a = c.args in (
      omega arith,
      omega arith,
      c.rows_within-n.ensures.0,
      refl,
      λ l e h.
          let n = id_count a.cap l _ e in
          let m = c.rows_within-n.ensures.1 (omega arith) in
          (omega arith, striking_none a.cap a.x l h _ e),
    )

pub loop-i-preserved : goal.loop-i-preserved
loop-i-preserved c =
    let s = c.loop-i in
    let a = c.args in
    let y = get_or s.t (1 + s.i) 0 in
    let counted : c.if-y-x.k ≡ s.k + bit_of (not (eqb y a.x)) =
    elim c.if-y-x.branch [
      | then-y-x w ↦ rw (eqb_apart y a.x w.if-y-x.true) w.k-is
      | else-y-x w ↦ rw (of_eq y a.x w.if-y-x.false) (w.k-is ∙ omega arith)
    ] in (
      elim c.if-y-x.branch [ then-y-x w ↦ omega (arith, w.k-is) | else-y-x w ↦ omega (arith, w.k-is) ],
      omega arith,
      s.invariant.2,
      simp length-set s.invariant.3,
      λ l e h.
          let t = s.invariant.4 l e h in
          (t.0, striking_more a.cap a.x l h _ _ _ t.1 (omega (arith, t.0, c.loop-i-test.true)) s.invariant.0 _ counted),
    )

pub shape_of-t : goal.shape_of-t
shape_of-t c = c.cut.auto.t ∙ c.loop-i.invariant.3

pub returns : goal.returns
returns c = λ l e h.
    let a = c.args in
    let t = c.loop-i.invariant.4 l e h in
    striking_all a.cap a.x l h _ _ _ t.1 (omega (arith, t.0, c.loop-i-test.false)) _ c.cut.ensures
