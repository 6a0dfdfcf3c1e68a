use mathlib.Core.Path.{refl, sym, ap, ◌∙◌}
use native.Mathlib.Omega.{arith}
use Rattle.rules.specs.Lists.{distinct}
use Rattle.unpacking.proofs.Bytes.{total, word_is, words_are}
use Rattle.id_lists.proofs.Lists.{ids_short, ids_many, ids_twice, ids_told}
use Rattle.id_lists.proofs.id_list_end.Goals as goal

pub returns-then-total-at : goal.returns-then-total-at
returns-then-total-at c = λ ws h. ids_short _ ws _ _ refl (omega (arith, total h))

pub returns-then-cap-n : goal.returns-then-cap-n
returns-then-cap-n c = λ ws h. ids_many _ ws c.args.at _ (c.word_at-n.ensures ∙ word_is h _ (omega (arith, total h))) (omega arith)

pub returns-then-total-first : goal.returns-then-total-first
returns-then-total-first c = λ ws h. ids_short _ ws c.args.at _ (c.word_at-n.ensures ∙ word_is h _ (omega (arith, total h))) (omega (arith, total h))

pub returns-then-not-differ : goal.returns-then-not-differ
returns-then-not-differ c = λ ws h.
    ids_twice _ ws c.args.at _ (c.word_at-n.ensures ∙ word_is h _ (omega (arith, total h)))
    (sym c.if-not-differ.true ∙ c.differ.ensures ∙ ap distinct (words_are h _ _ (omega (arith, total h))))

pub returns : goal.returns
returns c = λ ws h.
    ids_told _ ws c.args.at _ (c.word_at-n.ensures ∙ word_is h _ (omega (arith, total h))) (omega arith) (omega (arith, total h)) h.words
    (sym c.if-not-differ.false ∙ c.differ.ensures ∙ ap distinct (words_are h _ _ (omega (arith, total h))))
