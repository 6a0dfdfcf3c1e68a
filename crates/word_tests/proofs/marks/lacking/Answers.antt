use native.Mathlib.Omega.{arith}
use Rattle.word_tests.proofs.Loops.{gather, gathered, lacks, is_not, lacks_nil, lacks_cons}
use Rattle.word_tests.proofs.marks.lacking.Goals as goal

pub loop-i-preserved : goal.loop-i-preserved
loop-i-preserved g c =
    let x = c.args.x in
    let ws = g.W.Words.words c.args.words.now in
    rw c.word.ensures (gather (lacks x) (is_not x) (lacks_nil x) (lacks_cons x) ws _ c.loop-i.ok (omega (arith, c.count-i-end.ensures)) c.loop-i.invariant)

pub returns : goal.returns
returns g c = let x = c.args.x in gathered (lacks x) (is_not x) (lacks_nil x) (lacks_cons x) (g.W.Words.words c.args.words.now) c.loop-i.i _ (omega (arith, c.count-i-end.ensures)) c.loop-i.invariant
