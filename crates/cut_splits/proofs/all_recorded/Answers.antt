use mathlib.Core.Path.{sym, ◌∙◌}
use borrow.Author.Tests.{not-true, not-false}
use mathlib.Core.List.{◌++◌}
use Rattle.rules.specs.Table.{keys_of}
use Rattle.arriving.specs.Coming.{reshape_in}
use Rattle.arriving.proofs.Lists.{known, first_passes, first_fails}
use Rattle.cut_splits.proofs.all_recorded.Goals as goal

pub returns-then-not-half_recorded : goal.returns-then-not-half_recorded
returns-then-not-half_recorded c = λ b h ok l.
    let r = reshape_in c.args.i b in
    sym (first_fails (known b) r.left _ (sym (c.half_recorded.ensures b h ok l) ∙ not-true _ c.if-not-half_recorded.true-raw))

pub returns-then-not-half_recorded-2 : goal.returns-then-not-half_recorded-2
returns-then-not-half_recorded-2 c = λ b h ok l.
    let r = reshape_in c.args.i b in
    let left = sym (c.half_recorded.ensures b h ok l) ∙ not-false _ c.if-not-half_recorded.false-raw in
    let right = sym (c.half_recorded-2.ensures b h ok l) ∙ not-true _ c.if-not-half_recorded-2.true-raw in
    sym (first_passes (known b) r.left (r.right ++ keys_of r.seats) left ∙ first_fails (known b) r.right (keys_of r.seats) right)

pub returns : goal.returns
returns c = λ b h ok l.
    let r = reshape_in c.args.i b in
    let left = sym (c.half_recorded.ensures b h ok l) ∙ not-false _ c.if-not-half_recorded.false-raw in
    let right = sym (c.half_recorded-2.ensures b h ok l) ∙ not-false _ c.if-not-half_recorded-2.false-raw in
    c.seats_recorded.ensures b h ok l ∙ sym (first_passes (known b) r.left (r.right ++ keys_of r.seats) left ∙ first_passes (known b) r.right (keys_of r.seats) right)
