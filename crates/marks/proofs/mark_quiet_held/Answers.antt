use mathlib.Core.Path.{sym, ◌∙◌}
use borrow.Author.Tests.{not-true, not-false}
use Rattle.marks.proofs.Quiets.{side_made, side_within, no_target, side_too_large, no_reshape_lem, no_side, made_quiet}
use Rattle.marks.proofs.mark_quiet_held.Goals as goal

pub returns-then-not-is_target : goal.returns-then-not-is_target
returns-then-not-is_target c = λ b h ok. no_target b ok _ _ _ _ (sym c.is_target.ensures ∙ not-true _ c.if-not-is_target.true-raw) h c.refusal.ensures

pub returns-in_default : goal.returns-in_default
returns-in_default c = λ b h ok.
    let y = sym c.is_target.ensures ∙ not-false _ c.if-not-is_target.false-raw in
    side_too_large b ok _ _ _ _ y c.in_default.ensures h c.refusal-in_default.ensures

pub returns-in_default-find_reshape : goal.returns-in_default-find_reshape
returns-in_default-find_reshape c = λ b h ok.
    let y = sym c.is_target.ensures ∙ not-false _ c.if-not-is_target.false-raw in
    rw c.in-Some.ensures (no_reshape_lem b ok _ _ _ _ y (side_within c.in-Some.side) (c.in_default-find_reshape.ensures.found b h ok) h c.refusal-in_default-find_reshape.ensures)

pub returns-then-not-has_side : goal.returns-then-not-has_side
returns-then-not-has_side c = λ b h ok.
    let y = sym c.is_target.ensures ∙ not-false _ c.if-not-is_target.false-raw in
    let f = c.in-Some-find_reshape.ensures.found b h ok in
    let n = sym (c.has_side.ensures b h f.0) ∙ not-true _ c.if-not-has_side.true-raw in
    rw c.in-Some.ensures (no_side b ok _ _ _ _ y (side_within c.in-Some.side) _ f.0 f.1 n h c.refusal-then-not-has_side.ensures)

pub returns : goal.returns
returns c = λ b h ok.
    let y = sym c.is_target.ensures ∙ not-false _ c.if-not-is_target.false-raw in
    let f = c.in-Some-find_reshape.ensures.found b h ok in
    let s = sym (c.has_side.ensures b h f.0) ∙ not-false _ c.if-not-has_side.false-raw in
    rw c.in-Some.ensures (made_quiet b ok _ _ _ _ y (side_within c.in-Some.side) _ f.0 f.1 s (side_made b _ _ c.in-Some.side (c.set_quiet.ensures b h f.0)) c.done.ensures)
