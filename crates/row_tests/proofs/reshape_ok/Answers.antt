use Rattle.word_tests.specs.Tests.{all_pass}
use Rattle.row_tests.specs.Rows.{reshape_ok}
use Rattle.row_tests.proofs.reshape_ok.Goals as goal

pub returns : goal.returns
unfolding reshape_ok all_pass
returns c = cc
