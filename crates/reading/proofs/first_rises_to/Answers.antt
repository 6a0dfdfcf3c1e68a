use Rattle.reading.proofs.Streams.{rises_one}
use Rattle.reading.proofs.first_rises_to.Goals as goal

pub returns : goal.returns
returns c = λ ws h. rises_one c.args.t.now ws _ _ (c.word.ensures ws h)
