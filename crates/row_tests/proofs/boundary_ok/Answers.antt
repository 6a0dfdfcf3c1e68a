use Rattle.word_tests.specs.Tests.{all_pass}
use Rattle.row_tests.specs.Rows.{boundary_ok}
use Rattle.row_tests.proofs.boundary_ok.Goals as goal

pub returns : goal.returns
unfolding boundary_ok all_pass
returns c = cc
