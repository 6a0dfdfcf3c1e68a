use mathlib.Core.Path.{◌≡◌, refl, ap, ◌∙◌}
use native.Mathlib.Omega.{arith}
use lib.ListN.{length-set, drop}
use lib.Seq.{paste, paste-zero}
use Rattle.folding.proofs.Rows.{one_copied}
use Rattle.folding.proofs.copy_words.Goals as goal

pub loop-k-init : goal.loop-k-init
loop-k-init c = (omega arith, refl, paste-zero c.args.ws.now c.args.to (drop c.args.from c.args.ws.now))

pub loop-k-preserved : goal.loop-k-preserved
loop-k-preserved c =
    let l = c.loop-k in (
      omega arith,
      simp length-set l.invariant.1,
      one_copied c.args.ws.now c.args.from c.args.to c.args.n c.requires.0 c.requires.1 c.requires.2 l.k c.loop-k-test.true _ l.invariant.2,
    )

pub returns : goal.returns
returns c =
    let l = c.loop-k in
    let a = c.args in
    let e : l.k ≡ a.n = omega arith in
    l.invariant.2 ∙ ap (paste a.ws.now a.to (drop a.from a.ws.now)) e
