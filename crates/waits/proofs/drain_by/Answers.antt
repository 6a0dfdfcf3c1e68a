use mathlib.Core.Path.{sym, ◌∙◌}
use native.Mathlib.Omega.{arith}
use borrow.Author.Tests.{not-true, not-false}
use Rattle.board.specs.Held.{no_reshape}
use Rattle.board.proofs.Sections.{reshapes, word_read}
use Rattle.waits.proofs.Counted.{drain_is, some_is, none_is}
use Rattle.waits.proofs.drain_by.Goals as goal

pub returns-then-not-is_draining : goal.returns-then-not-is_draining
returns-then-not-is_draining c = λ b h l. none_is _ (sym (c.is_draining.ensures b h l) ∙ not-true _ c.if-not-is_draining.true-raw)

pub returns : goal.returns
returns c = λ b h l.
    some_is _ _ (sym (c.is_draining.ensures b h l) ∙ not-false _ c.if-not-is_draining.false-raw) (word_read reshapes _ b h c.args.i no_reshape l 4 (omega arith) ∙ drain_is _)
