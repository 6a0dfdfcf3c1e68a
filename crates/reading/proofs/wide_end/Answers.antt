use mathlib.Core.Path.{sym, ◌∙◌}
use mathlib.Core.Logic.{inl, inr}
use native.Mathlib.Omega.{arith}
use borrow.Author.Tests.{not-true, not-false}
use Rattle.word_tests.proofs.Decides.{words_all}
use Rattle.unpacking.proofs.Bytes.{total}
use Rattle.reading.proofs.Bytes.{bytes_as}
use Rattle.reading.proofs.Streams.{row_missing, row_bad, row_falls, row_told}
use borrow.Author.Rules.{rules}
use Rattle.reading.proofs.wide_end.Goals as goal

pub returns-in_err-end : goal.returns-in_err-end
returns-in_err-end c = λ ws h. rw c.from_residual.ensures (row_missing _ _ ws _ _ (c.in_err-end.ensures ws h))

pub returns-then-not-row_ok : goal.returns-then-not-row_ok
returns-then-not-row_ok c = λ ws h. row_bad _ _ ws _ _ _ (c.in_ok-end.ensures ws h) (sym c.row_ok.ensures ∙ not-true _ c.if-not-row_ok.true-raw)

pub returns-then-last : goal.returns-then-last
returns-then-last c = λ ws h. row_told _ _ ws _ _ _ (c.in_ok-end.ensures ws h) (words_all _ (λ i. omega (arith, c.slice_known-2-1.given i))) (search rules) (sym c.row_ok.ensures ∙ not-false _ c.if-not-row_ok.false-raw) (inl c.if-last.true)

pub rises_to-requires : goal.rises_to-requires
rises_to-requires c = let g = c.args.bytes.now in
    let h = bytes_as g c.requires.0 (λ i. omega (arith, c.shared_slice_known-1.given i)) in
    omega (arith, (c.in_ok-end.ensures _ h).read.1, total h)

pub returns-then-not-rises_to : goal.returns-then-not-rises_to
returns-then-not-rises_to c = λ ws h. row_falls _ _ ws _ _ _ (c.in_ok-end.ensures ws h) c.if-last.false (rw c.in_pairs.ensures at (sym (c.rises_to.ensures ws h) ∙ not-true _ c.if-not-rises_to.true-raw))

pub returns : goal.returns
returns c = λ ws h. row_told _ _ ws _ _ _ (c.in_ok-end.ensures ws h) (words_all _ (λ i. omega (arith, c.slice_known-2-1.given i))) (search rules) (sym c.row_ok.ensures ∙ not-false _ c.if-not-row_ok.false-raw) (inr (rw c.in_pairs.ensures at (sym (c.rises_to.ensures ws h) ∙ not-false _ c.if-not-rises_to.false-raw)))
