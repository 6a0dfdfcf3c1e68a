use mathlib.Core.Path.{refl}
use Rattle.word_tests.specs.Tests.{all_pass, any_pass}
use Rattle.row_tests.specs.Rows.{scheduled_ok}
use Rattle.row_tests.proofs.scheduled_ok.Goals as goal

pub returns : goal.returns
unfolding scheduled_ok all_pass any_pass
returns c = refl
