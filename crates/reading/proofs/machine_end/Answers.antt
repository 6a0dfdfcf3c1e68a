use mathlib.Core.Path.{sym, ◌∙◌}
use native.Mathlib.Omega.{arith}
use borrow.Author.Rules.{rules}
use borrow.Author.Tests.{not-true, not-false, eq-eqb, ne_eqb}
use Rattle.unpacking.proofs.Bytes.{total, word_is}
use Rattle.reading.proofs.Machines.{machine_bad, machine_last, machine_falls, machine_next}
use Rattle.reading.proofs.machine_end.Goals as goal

pub returns-then-not-machine_ok-clause-told : goal.returns-then-not-machine_ok-clause-told
returns-then-not-machine_ok-clause-told c = λ ws h. machine_bad _ h _ _ (omega arith) c.get_words.ensures.1 (sym c.machine_ok.ensures ∙ not-true _ c.if-not-machine_ok.true-raw)

pub returns-then-n-eq1-clause-told : goal.returns-then-n-eq1-clause-told
returns-then-n-eq1-clause-told c = λ ws h. machine_last _ h _ _ (omega arith) c.get_words.ensures.1 (search rules) (sym c.machine_ok.ensures ∙ not-false _ c.if-not-machine_ok.false-raw) (eq-eqb _ 1 c.if-n-eq1.true)

pub returns-then-not-t-word_at-clause-told : goal.returns-then-not-t-word_at-clause-told
returns-then-not-t-word_at-clause-told c = λ ws h.
    machine_falls _ h _ _ (omega arith) c.get_words.ensures.1 (ne_eqb _ 1 c.if-n-eq1.false) _ (c.word_at.ensures ∙ word_is h _ (omega (arith, total h))) (not-true _ c.if-not-t-word_at.true-raw)

pub returns-clause-told : goal.returns-clause-told
returns-clause-told c = λ ws h.
    machine_next _ h _ _ (omega arith) c.get_words.ensures.1 (search rules) (sym c.machine_ok.ensures ∙ not-false _ c.if-not-machine_ok.false-raw) _
    (c.word_at.ensures ∙ word_is h _ (omega (arith, total h))) (not-false _ c.if-not-t-word_at.false-raw)
