use mathlib.Core.Path.{sym, ◌∙◌}
use Rattle.board.specs.Held.{no_seat}
use Rattle.board.proofs.Keyed.{seats_rise}
use Rattle.rows.proofs.Asked.{finds_stands}
use Rattle.cut_merges.proofs.Drains.{keeper_stays, other_goes}
use Rattle.cut_merges.proofs.others.pool_other.Goals as goal

pub returns-then-is_some : goal.returns-then-is_some
returns-then-is_some c = λ b h ok l m n.
    let f = finds_stands _ no_seat _ _ (seats_rise b ok _ l) (c.find_seat.ensures.found b h ok l) in
    keeper_stays b _ _ _ _ (c.member_at-id.ensures b h m n) (sym (c.if-is_some.ensures ∙ f)) h

pub returns : goal.returns
returns c = λ b h ok l m n.
    let f = finds_stands _ no_seat _ _ (seats_rise b ok _ l) (c.find_seat.ensures.found b h ok l) in
    other_goes b _ _ _ _ (c.member_at-id.ensures b h m n) (sym (c.if-is_some.ensures ∙ f)) (c.place.ensures b h ok)
