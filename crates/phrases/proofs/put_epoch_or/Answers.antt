use Rattle.phrases.specs.Texts.{epoch_or}
use Rattle.phrases.proofs.put_epoch_or.Goals as goal

pub returns-in-Some : goal.returns-in-Some
unfolding epoch_or
returns-in-Some c = rw c.in-Some.is c.put_column.ensures

pub returns-in-None : goal.returns-in-None
unfolding epoch_or
returns-in-None c = rw c.in-None.is c.put_text.ensures
