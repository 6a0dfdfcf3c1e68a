use mathlib.Core.Path.{sym, ◌∙◌}
use borrow.Author.Tests.{not-true, not-false}
use Rattle.marks.proofs.Readies.{no_target, no_reshape_lem, no_seat_lem, made_ready_lem}
use Rattle.marks.proofs.mark_seat_ready_held.Goals as goal

pub returns-then-not-is_target : goal.returns-then-not-is_target
returns-then-not-is_target c = λ b h ok. no_target b ok _ _ _ _ (sym c.is_target.ensures ∙ not-true _ c.if-not-is_target.true-raw) h c.refusal.ensures

pub returns-in_default : goal.returns-in_default
returns-in_default c = λ b h ok.
    let y = sym c.is_target.ensures ∙ not-false _ c.if-not-is_target.false-raw in
    no_reshape_lem b ok _ _ _ _ y (c.in_default.ensures.found b h ok) h c.refusal-in_default.ensures

pub returns-in_default-find_seat : goal.returns-in_default-find_seat
returns-in_default-find_seat c = λ b h ok.
    let y = sym c.is_target.ensures ∙ not-false _ c.if-not-is_target.false-raw in
    let f = c.in-Some.ensures.found b h ok in
    no_seat_lem b ok _ _ _ _ y _ f.0 f.1 (c.in_default-find_seat.ensures.found b h ok f.0) h c.refusal-in_default-find_seat.ensures

pub returns : goal.returns
returns c = λ b h ok.
    let y = sym c.is_target.ensures ∙ not-false _ c.if-not-is_target.false-raw in
    let f = c.in-Some.ensures.found b h ok in
    let g = c.in-Some-find_seat.ensures.found b h ok f.0 in
    made_ready_lem b ok _ _ _ _ y _ f.0 f.1 _ g.0 g.1 (c.ready_seat.ensures b h f.0 g.0) c.done.ensures
