use Rattle.word_tests.specs.Tests.{all_pass}
use Rattle.row_tests.specs.Rows.{halves_ok}
use Rattle.row_tests.proofs.halves_ok.Goals as goal

pub returns : goal.returns
unfolding halves_ok all_pass
returns c = cc
