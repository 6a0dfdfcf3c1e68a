use Rattle.word_tests.specs.Tests.{all_pass}
use Rattle.row_tests.specs.Rows.{committee_ok}
use Rattle.row_tests.proofs.committee_ok.Goals as goal

pub returns : goal.returns
unfolding committee_ok all_pass
returns c = cc
