use Rattle.word_tests.specs.Tests.{all_pass}
use Rattle.row_tests.specs.Rows.{epochs_ok}
use Rattle.row_tests.proofs.epochs_ok.Goals as goal

pub returns : goal.returns
unfolding epochs_ok all_pass
returns c = cc
