use mathlib.Core.Path.{sym, ◌∙◌}
use borrow.Author.Tests.{ltb-true}
use Rattle.word_tests.proofs.Tests.{left_true, right_true}
use Rattle.unpacking.proofs.Sections.{plain_read}
use Rattle.unpacking.proofs.unpack_rows.Goals as goal

pub returns-then-is_plain-n : goal.returns-then-is_plain-n
returns-then-is_plain-n c = λ ws h.
    let a = c.args in
    plain_read a.k a.w a.n _ _ ws a.out.now _ (sym c.is_plain.ensures ∙ left_true _ _ c.if-is_plain-n.true) (ltb-true _ _ (right_true c.is_plain.result _ c.if-is_plain-n.true)) c.requires.0 c.requires.1 (c.unpack_words.ensures ws h)
