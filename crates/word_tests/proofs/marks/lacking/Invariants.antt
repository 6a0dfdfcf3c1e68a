use Rattle.std.proofs.Common.{◌≡◌, ◌&&◌, drop}
use Rattle.word_tests.proofs.Loops.{lacks}
use Rattle.word_tests.proofs.marks.lacking.Given as goal

abbrev pub invariant-loop-i : goal.invariant-loop-i
invariant-loop-i g l = let ws = g.W.Words.words l.words in lacks l.x (drop l.from ws) ≡ (l.ok && lacks l.x (drop l.i ws))
