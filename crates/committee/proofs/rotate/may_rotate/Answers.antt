use mathlib.Core.Path.{sym, ◌∙◌}
use borrow.Author.Tests.{not-true, not-false}
use Rattle.committee.proofs.Rotates.{gate_interval, gate_committee, gate_split, gate_in_flight, committee_stands, committee_missing}
use Rattle.committee.proofs.rotate.may_rotate.Goals as goal

pub returns-then-not-at_interval : goal.returns-then-not-at_interval
returns-then-not-at_interval c = λ b h ok. gate_interval _ b (sym (c.at_interval.ensures b h ok) ∙ not-true _ c.if-not-at_interval.true-raw)

pub returns-then-is_none : goal.returns-then-is_none
returns-then-is_none c = λ b h ok. gate_committee _ b (sym (c.at_interval.ensures b h ok) ∙ not-false _ c.if-not-at_interval.false-raw) (committee_missing _ b _ (c.find_committee.ensures.found b h ok) c.if-is_none.ensures)

pub returns-then-is_splitting : goal.returns-then-is_splitting
returns-then-is_splitting c = λ b h ok.
    let j = c.find_committee.ensures.found b h ok in
    gate_split _ b (sym (c.at_interval.ensures b h ok) ∙ not-false _ c.if-not-at_interval.false-raw) (committee_stands _ b _ j ok c.if-is_none.ensures) (sym (c.is_splitting.ensures b h ok) ∙ c.if-is_splitting.true)

pub returns : goal.returns
returns c = λ b h ok.
    let j = c.find_committee.ensures.found b h ok in
    gate_in_flight _ b (sym (c.at_interval.ensures b h ok) ∙ not-false _ c.if-not-at_interval.false-raw) (committee_stands _ b _ j ok c.if-is_none.ensures) (sym (c.is_splitting.ensures b h ok) ∙ c.if-is_splitting.false) _ _ (c.rotations_on-open.ensures.1 b h ok) (c.most_in_flight.ensures b h)
