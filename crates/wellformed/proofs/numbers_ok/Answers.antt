use Rattle.word_tests.specs.Tests.{all_pass}
use Rattle.wellformed.specs.Check.{numbers_ok}
use Rattle.wellformed.proofs.numbers_ok.Goals as goal

pub returns : goal.returns
unfolding numbers_ok all_pass
returns c = cc
