use mathlib.Core.Path.{refl}
use Rattle.word_tests.specs.Tests.{all_pass, any_pass}
use Rattle.row_tests.specs.Rows.{option_ok}
use Rattle.row_tests.proofs.option_ok.Goals as goal

pub returns : goal.returns
unfolding option_ok all_pass any_pass
returns c = refl
