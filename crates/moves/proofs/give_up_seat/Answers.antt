use mathlib.Core.Path.{sym}
use Rattle.moves.proofs.Exiting.{no_reshape_lem, other_kind, no_seat_lem, seat_closed}
use Rattle.moves.proofs.give_up_seat.Goals as goal

pub returns-in_default : goal.returns-in_default
returns-in_default c = λ b h ok. no_reshape_lem b ok _ _ _ _ (c.in_default.ensures.found b h ok) h

pub returns-then-not-is_of_kind : goal.returns-then-not-is_of_kind
returns-then-not-is_of_kind c = λ b h ok.
    let f = c.in-Some.ensures.found b h ok in
    other_kind b ok _ _ _ _ _ f.0 f.1 (sym (c.if-not-is_of_kind.ensures b h f.0)) h

pub returns-in_default-find_seat : goal.returns-in_default-find_seat
returns-in_default-find_seat c = λ b h ok.
    let f = c.in-Some.ensures.found b h ok in
    no_seat_lem b ok _ _ _ _ _ f.0 f.1 (sym (c.if-not-is_of_kind.ensures b h f.0)) (c.in_default-find_seat.ensures.found b h ok f.0) h

pub returns : goal.returns
returns c = λ b h ok.
    let f = c.in-Some.ensures.found b h ok in
    let g = c.in-Some-find_seat.ensures.found b h ok f.0 in
    seat_closed b ok _ _ _ _ _ f.0 f.1 (sym (c.if-not-is_of_kind.ensures b h f.0)) _ g.0 g.1 (c.close.ensures b h f.0 g.0)
