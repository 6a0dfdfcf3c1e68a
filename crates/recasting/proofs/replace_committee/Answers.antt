use mathlib.Core.Path.{sym, ◌∙◌}
use native.Mathlib.Omega.{arith}
use Rattle.rules.proofs.KeptBoard.{good_of_lem, of_good}
use Rattle.tables.proofs.Keys.{remove_none}
use Rattle.board.specs.Held.{no_committee}
use Rattle.board.proofs.Keyed.{committees_rise}
use Rattle.rows.proofs.Asked.{finds_stands}
use Rattle.recasting.proofs.Families.{good_closed}
use Rattle.recasting.proofs.Replaced.{none_replaced, place_within, one_replaced}
use Rattle.recasting.proofs.replace_committee.Goals as goal

pub returns-in_default : goal.returns-in_default
returns-in_default c =
    λ b h ok l r.
    let n = c.in_default.ensures.found b h ok in
    none_replaced b ok _ _ l _ n (c.empty_committee.ensures b h ok (rw (remove_none _ b.committees n) at r))

pub returns-then-is_some : goal.returns-then-is_some
returns-then-is_some c =
    λ b h ok l r.
    c.empty_committee-then-is_some.ensures _ (c.close_committee.ensures b h ok) (of_good (good_closed _ (good_of_lem b ok))) r

pub returns-then-j-k : goal.returns-then-j-k
returns-then-j-k c =
    λ b h ok l r.
    let f = c.in-Some.ensures.found b h ok in
    absurd (omega (arith, c.if-j-k.true, place_within b ok _ _ l _ f.0 f.1 _ (c.place_of-k.ensures.1 b h (committees_rise b ok))))

pub returns : goal.returns
returns c =
    λ b h ok l r.
    let f = c.in-Some.ensures.found b h ok in
    let own = finds_stands _ no_committee _ _ (committees_rise b ok) (c.find_committee-2.ensures.found b h ok) in
    one_replaced b ok _ _ l _ f.0 f.1 _ (c.place_of-k.ensures.1 b h (committees_rise b ok)) _ (sym own ∙ sym c.if-is_some.ensures) (c.replace.ensures b h f.0)
