use mathlib.Core.Path.{refl}
use Rattle.word_tests.specs.Tests.{all_pass}
use Rattle.row_tests.specs.Rows.{seat_ok}
use Rattle.row_tests.proofs.seat_ok.Goals as goal

pub returns : goal.returns
unfolding seat_ok all_pass
returns c = refl
