use mathlib.Core.Path.{sym, ◌∙◌}
use Rattle.board.specs.Held.{no_seat}
use Rattle.board.proofs.Keyed.{seats_rise}
use Rattle.rows.proofs.Asked.{finds_stands}
use Rattle.occupancy.proofs.Occupied.{no_reshape_lem, merge_there, split_there}
use Rattle.occupancy.proofs.has_cohort_seat.Goals as goal

pub returns-in_default : goal.returns-in_default
returns-in_default c = λ b h ok. no_reshape_lem _ _ b ok (c.in_default.ensures.found b h ok)

pub returns-then-is_merge : goal.returns-then-is_merge
returns-then-is_merge c = λ b h ok.
    let f = c.in-Some.ensures.found b h ok in
    merge_there _ _ b ok _ f (sym (c.is_merge.ensures b h f.0) ∙ c.if-is_merge.true)

pub returns : goal.returns
returns c = λ b h ok.
    let f = c.in-Some.ensures.found b h ok in
    c.is_some.ensures ∙ finds_stands _ no_seat _ _ (seats_rise b ok _ f.0) (c.find_seat.ensures.found b h ok f.0)
    ∙ split_there _ _ b ok _ f (sym (c.is_merge.ensures b h f.0) ∙ c.if-is_merge.false)
