use Rattle.word_tests.specs.Tests.{all_pass}
use Rattle.row_tests.specs.Rows.{rotation_ok}
use Rattle.row_tests.proofs.rotation_ok.Goals as goal

pub returns : goal.returns
unfolding rotation_ok all_pass
returns c = cc
