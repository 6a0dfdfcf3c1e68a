use mathlib.Core.Path.{sym, ◌∙◌}
use mathlib.Core.Logic.{inl, inr}
use native.Mathlib.Omega.{arith}
use borrow.Author.Tests.{not-true, not-false}
use Rattle.unpacking.proofs.Bytes.{total, words_are}
use Rattle.reading.proofs.ReshapeRows.{head_short, head_bad, no_lists, reshape_falls, reshape_told}
use Rattle.reading.proofs.reshape_rows.reshape_end.Goals as goal

pub returns-then-total-at : goal.returns-then-total-at
returns-then-total-at c = λ ws h. head_short _ ws _ (omega (arith, total h))

pub returns-then-total-at-2 : goal.returns-then-total-at-2
returns-then-total-at-2 c = λ ws h. head_short _ ws _ (omega (arith, total h))

pub returns-then-not-reshape_head_ok : goal.returns-then-not-reshape_head_ok
returns-then-not-reshape_head_ok c = λ ws h. head_bad _ ws _ _ (c.get_words.ensures.1 ∙ words_are h c.args.at 9 (omega (arith, total h))) (sym c.reshape_head_ok.ensures ∙ not-true _ c.if-not-reshape_head_ok.true-raw)

pub returns-in_err-end : goal.returns-in_err-end
returns-in_err-end c = λ ws h. rw c.from_residual.ensures (no_lists _ ws _ _ (c.get_words.ensures.1 ∙ words_are h c.args.at 9 (omega (arith, total h))) (c.in_err-end.ensures ws h))

pub returns-then-last : goal.returns-then-last
returns-then-last c = λ ws h.
    reshape_told _ ws _ _ (c.get_words.ensures.1 ∙ words_are h c.args.at 9 (omega (arith, total h))) _ (c.in_ok-end.ensures ws h)
    (omega (arith, total h)) (sym c.reshape_head_ok.ensures ∙ not-false _ c.if-not-reshape_head_ok.false-raw) (inl c.if-last.true)

pub returns-then-not-first_rises_to : goal.returns-then-not-first_rises_to
returns-then-not-first_rises_to c = λ ws h.
    reshape_falls _ ws _ _ (c.get_words.ensures.1 ∙ words_are h c.args.at 9 (omega (arith, total h))) _ (c.in_ok-end.ensures ws h)
    c.if-last.false (sym (c.first_rises_to.ensures ws h) ∙ not-true _ c.if-not-first_rises_to.true-raw)

pub returns : goal.returns
returns c = λ ws h.
    reshape_told _ ws _ _ (c.get_words.ensures.1 ∙ words_are h c.args.at 9 (omega (arith, total h))) _ (c.in_ok-end.ensures ws h)
    (omega (arith, total h)) (sym c.reshape_head_ok.ensures ∙ not-false _ c.if-not-reshape_head_ok.false-raw) (inr (sym (c.first_rises_to.ensures ws h) ∙ not-false _ c.if-not-first_rises_to.false-raw))
