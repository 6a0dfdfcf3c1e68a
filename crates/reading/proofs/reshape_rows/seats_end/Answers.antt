use mathlib.Core.Path.{refl, sym, ◌∙◌}
use native.Mathlib.Omega.{arith}
use borrow.Author.Tests.{not-true, not-false}
use Rattle.unpacking.proofs.Bytes.{total, word_is}
use Rattle.reading.proofs.Seats.{seats_short, seats_many, seats_bad, seats_told}
use Rattle.reading.proofs.reshape_rows.seats_end.Goals as goal

pub returns-then-total-at : goal.returns-then-total-at
returns-then-total-at c = λ ws h. seats_short _ ws _ _ refl (omega (arith, total h))

pub returns-then-n-gt-MOST_SEATS : goal.returns-then-n-gt-MOST_SEATS
returns-then-n-gt-MOST_SEATS c = λ ws h. seats_many _ ws c.args.at _ (c.word_at-n.ensures ∙ word_is h _ (omega (arith, total h))) (omega arith)

pub returns-then-total-at-2 : goal.returns-then-total-at-2
returns-then-total-at-2 c = λ ws h. seats_short _ ws c.args.at _ (c.word_at-n.ensures ∙ word_is h _ (omega (arith, total h))) (omega (arith, total h))

pub returns-then-not-seats_ok : goal.returns-then-not-seats_ok
returns-then-not-seats_ok c = λ ws h.
    let n = c.word_at-n.ensures ∙ word_is h c.args.at (omega (arith, total h)) in
    seats_bad _ ws c.args.at _ n (sym (not-true _ c.if-not-seats_ok.true-raw) ∙ c.seats_ok.ensures ws h n)

pub returns : goal.returns
returns c = λ ws h.
    let n = c.word_at-n.ensures ∙ word_is h c.args.at (omega (arith, total h)) in
    seats_told _ ws c.args.at _ n (omega arith) (omega (arith, total h)) h.words (sym (not-false _ c.if-not-seats_ok.false-raw) ∙ c.seats_ok.ensures ws h n)
