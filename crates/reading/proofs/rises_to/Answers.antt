use mathlib.Core.Path.{◌∙◌}
use Rattle.reading.proofs.Streams.{rises_two}
use Rattle.reading.proofs.rises_to.Goals as goal

pub returns : goal.returns
returns c = λ ws h. let a = c.args in c.rises.ensures ∙ rises_two a.t.now ws a.at _ (c.word.ensures ws h) a.pairs _ (c.word-2.ensures ws h)
