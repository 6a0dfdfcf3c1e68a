use Prim.Native.Nat.{◌+◌, ◌*◌}
use mathlib.Core.Path.{◌≡◌, refl, ◌∙◌}
use native.Mathlib.Omega.{arith}
use lib.ListN.{length, length-set}
use Rattle.bytes_words.proofs.Gets.{got_none, got_turn, got_all}
use Rattle.bytes_words.proofs.get_words.Goals as goal

pub loop-i-init : goal.loop-i-init
loop-i-init c = let a = c.args in (omega arith, refl, got_none a.bytes.now a.at a.out.now)

pub loop-i-preserved : goal.loop-i-preserved
loop-i-preserved c =
    let l = c.loop-i in
    let a = c.args in
    let e : a.at + 8 * l.i ≡ a.at + l.i * 8 = omega arith in (
      l.invariant.0,
      simp length-set l.invariant.1,
      got_turn a.bytes.now a.at a.out.now l.out l.i (a.at + 8 * l.i) c.word_at.result l.invariant.2 (omega arith) e c.word_at.ensures,
    )

pub returns : goal.returns
returns c = let e : c.loop-i.i ≡ length c.args.out.now = omega arith in (omega arith, c.loop-i.invariant.2 ∙ got_all c.args.bytes.now c.args.at c.args.out.now c.loop-i.i e)
