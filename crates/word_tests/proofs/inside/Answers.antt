use mathlib.Core.Path.{sym}
use Rattle.word_tests.proofs.Tests.{and_is}
use Rattle.word_tests.proofs.inside.Goals as goal

pub returns : goal.returns
returns c = sym (and_is _ _)
