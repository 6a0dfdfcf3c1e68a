use Rattle.word_tests.specs.Tests.{all_pass, any_pass}
use Rattle.word_tests.proofs.rises.Goals as goal

pub returns : goal.returns
unfolding all_pass any_pass
returns c = cc
