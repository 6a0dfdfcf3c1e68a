use Prim.Native.Nat.{◌<◌}
use mathlib.Core.Path.{ap, sym, ◌∙◌}
use native.Mathlib.Omega.{arith}
use lib.ListN.{length}
use lib.Seq.{take_all}
use Rattle.rules.specs.Lists.{has}
use Rattle.tables.proofs.Ids.{id_count, id_at, has_none, has_more}
use Rattle.tables.proofs.contains.Goals as goal

pub loop-i-init : goal.loop-i-init
loop-i-init c = (
  omega arith,
  c.rows_within-n.ensures.0,
  λ l e h.
      let n = id_count c.args.cap l _ e in
      let m = c.rows_within-n.ensures.1 (omega arith) in
      (omega arith, sym (has_none c.args.x)),
)

pub loop-i-preserved : goal.loop-i-preserved
loop-i-preserved c =
    let a = c.loop-i in (
      omega arith,
      a.invariant.1,
      λ l e h.
          let s = a.invariant.2 l e h in
          let k : a.i < length l = omega (arith, s.0, c.loop-i-test.true) in
          (s.0, has_more c.args.x l a.i a.found _ k s.1 (id_at c.args.cap l _ e a.i k h)),
    )

pub returns : goal.returns
returns c = λ l e h.
    let a = c.loop-i in
    let s = a.invariant.2 l e h in
    s.1 ∙ ap (has c.args.x) (take_all a.i l (omega (arith, s.0, c.loop-i-test.false)))
