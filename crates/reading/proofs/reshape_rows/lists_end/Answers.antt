use mathlib.Core.Path.{sym, ◌∙◌}
use borrow.Author.Tests.{not-true, not-false}
use Rattle.reading.proofs.ReshapeRows.{no_seats, no_left, no_right, not_scheduled, lists_told}
use Rattle.reading.proofs.reshape_rows.lists_end.Goals as goal

pub returns-in_err-halves : goal.returns-in_err-halves
returns-in_err-halves c = λ ws h. rw c.from_residual.ensures (no_seats _ ws _ (c.in_err-halves.ensures ws h))

pub returns-in_err-middle : goal.returns-in_err-middle
returns-in_err-middle c = λ ws h. rw c.from_residual-in_err-middle.ensures (no_left _ ws _ _ (c.in_ok-halves.ensures ws h) (c.in_err-middle.ensures ws h))

pub returns-in_err-end : goal.returns-in_err-end
returns-in_err-end c = λ ws h. rw c.from_residual-in_err-end.ensures (no_right _ ws _ _ (c.in_ok-halves.ensures ws h) _ (c.in_ok-middle.ensures ws h) (c.in_err-end.ensures ws h))

pub returns-then-not-scheduled_ok : goal.returns-then-not-scheduled_ok
returns-then-not-scheduled_ok c = λ ws h.
    not_scheduled _ ws _ _ (c.in_ok-halves.ensures ws h) _ (c.in_ok-middle.ensures ws h) _ (c.in_ok-end.ensures ws h) _ _ (c.word.ensures ws h) (c.word-2.ensures ws h)
    (sym c.scheduled_ok.ensures ∙ not-true _ c.if-not-scheduled_ok.true-raw)

pub returns : goal.returns
returns c = λ ws h.
    lists_told _ ws _ _ (c.in_ok-halves.ensures ws h) _ (c.in_ok-middle.ensures ws h) _ (c.in_ok-end.ensures ws h) _ _ (c.word.ensures ws h) (c.word-2.ensures ws h)
    (sym c.scheduled_ok.ensures ∙ not-false _ c.if-not-scheduled_ok.false-raw)
