use mathlib.Core.Path.{ap, sym, ◌∙◌}
use mathlib.Core.Logic.{inl, inr}
use native.Mathlib.Omega.{arith}
use borrow.Author.Tests.{not-true, not-false}
use Rattle.rules.specs.WellFormed.{is_shard}
use Rattle.unpacking.proofs.Bytes.{total}
use Rattle.reading.proofs.Members.{committee_past, committee_misnamed, members_none, committee_falls, committee_told}
use Rattle.reading.proofs.committee_end.Goals as goal

pub returns-then-bytes-at : goal.returns-then-bytes-at
returns-then-bytes-at c = λ ws h. committee_past _ ws _ (omega (arith, total h))

pub returns-then-not-inside : goal.returns-then-not-inside
returns-then-not-inside c = λ ws h. committee_misnamed _ ws _ (ap is_shard (sym (c.word-shard.ensures ws h)) ∙ sym c.inside.ensures ∙ not-true _ c.if-not-inside.true-raw)

pub returns-in_err-end : goal.returns-in_err-end
returns-in_err-end c = λ ws h. rw c.from_residual.ensures (members_none _ ws _ (c.in_err-end.ensures ws h))

pub returns-then-last : goal.returns-then-last
returns-then-last c = λ ws h.
    committee_told _ ws _ _ (c.in_ok-end.ensures ws h) (omega (arith, total h))
    (ap is_shard (sym (c.word-shard.ensures ws h)) ∙ sym c.inside.ensures ∙ not-false _ c.if-not-inside.false-raw) (inl c.if-last.true)

pub returns-then-not-shard-word : goal.returns-then-not-shard-word
returns-then-not-shard-word c = λ ws h. committee_falls _ ws _ _ (c.in_ok-end.ensures ws h) c.if-last.false
    (rw (sym (c.word-shard.ensures ws h), sym (c.word.ensures ws h)) (not-true _ c.if-not-shard-word.true-raw))

pub returns : goal.returns
returns c = λ ws h.
    committee_told _ ws _ _ (c.in_ok-end.ensures ws h) (omega (arith, total h))
    (ap is_shard (sym (c.word-shard.ensures ws h)) ∙ sym c.inside.ensures ∙ not-false _ c.if-not-inside.false-raw)
    (inr (rw (sym (c.word-shard.ensures ws h), sym (c.word.ensures ws h)) (not-false _ c.if-not-shard-word.false-raw)))
