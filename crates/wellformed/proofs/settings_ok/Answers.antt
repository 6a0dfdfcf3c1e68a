use Rattle.word_tests.specs.Tests.{all_pass}
use Rattle.wellformed.specs.Check.{settings_ok}
use Rattle.wellformed.proofs.settings_ok.Goals as goal

pub returns : goal.returns
unfolding settings_ok all_pass
returns c = cc
