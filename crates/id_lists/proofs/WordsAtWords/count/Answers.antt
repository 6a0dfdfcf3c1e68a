use mathlib.Core.Path.{sym}
use Rattle.id_lists.proofs.Places.{read_length}
use Rattle.id_lists.proofs.WordsAtWords.count.Goals as goal

pub returns : goal.returns
returns c = sym (read_length _ _)
