use Rattle.word_tests.specs.Tests.{all_pass}
use Rattle.row_tests.proofs.reshape_head_ok.Goals as goal

pub returns : goal.returns
unfolding all_pass
returns c = cc
