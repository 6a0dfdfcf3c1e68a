use Prim.Native.Nat.{◌<◌}
use mathlib.Core.Path.{refl, sym, ◌∙◌}
use native.Mathlib.Omega.{arith}
use native.Mathlib.Numerals.{add-one}
use lib.ListN.{length, drop_of_length-le}
use lib.Seq.{drop-cons}
use Rattle.board.specs.Held.{no_machine}
use Rattle.board.proofs.Keyed.{machines_rise}
use Rattle.rows.proofs.Asked.{finds_stands}
use Rattle.arriving.specs.Coming.{reshape_in}
use Rattle.arriving.proofs.Lists.{known, every_ended, is_unknown, is_known}
use Rattle.reshapes.specs.Changes.{half_of}
use Rattle.cut_splits.proofs.halves.half_recorded.Goals as goal

pub loop-k-init : goal.loop-k-init
loop-k-init c = (omega arith, c.half_count-n.ensures.0, λ b h ok l. (c.half_count-n.ensures.1 b h ok l, refl))

pub returns-then-is_none : goal.returns-then-is_none
returns-then-is_none c = λ b h ok l.
    let a = c.loop-k in
    let t = a.invariant.2 b h ok l in
    let half = half_of c.args.side (reshape_in c.args.i b) in
    let m : a.k < length half = omega (arith, t.0, c.loop-k-test.true) in
    let f = finds_stands _ no_machine _ _ (machines_rise b ok) (c.find_machine.ensures.found b h ok) in
    is_unknown b _ _ _ _ _ (drop-cons half a.k 0 m) (c.at.ensures b h l m) t.1 (sym f ∙ c.if-is_none.ensures)

pub loop-k-preserved : goal.loop-k-preserved
loop-k-preserved c = let a = c.loop-k in (
  omega arith,
  a.invariant.1,
  λ b h ok l.
      let t = a.invariant.2 b h ok l in
      let half = half_of c.args.side (reshape_in c.args.i b) in
      let m : a.k < length half = omega (arith, t.0, c.loop-k-test.true) in
      let f = finds_stands _ no_machine _ _ (machines_rise b ok) (c.find_machine.ensures.found b h ok) in
      (t.0, rw add-one (is_known b _ _ _ _ _ (drop-cons half a.k 0 m) (c.at.ensures b h l m) t.1 (sym f ∙ c.if-is_none.ensures))),
)

pub returns : goal.returns
returns c = λ b h ok l.
    let a = c.loop-k in
    let t = a.invariant.2 b h ok l in
    let half = half_of c.args.side (reshape_in c.args.i b) in
    sym (t.1 ∙ every_ended (known b) _ (drop_of_length-le half {i = a.k} (omega (arith, t.0, c.loop-k-test.false))))
