use mathlib.Core.Path.{sym, ◌∙◌}
use borrow.Author.Tests.{not-false}
use Rattle.word_tests.proofs.Decides.{zero_sound}
use Rattle.wiping.proofs.wipe_piece.Goals as goal

pub returns-else-not-all_zero : goal.returns-else-not-all_zero
returns-else-not-all_zero c = zero_sound _ (sym c.all_zero.ensures ∙ not-false _ c.if-not-all_zero.false-raw)
