use mathlib.Core.List.{[]}
use Rattle.rules.proofs.KeptBoard.{good_of_lem}
use native.Mathlib.Omega.{arith}
use Rattle.board.proofs.Keyed.{committees_rise}
use Rattle.recasting.proofs.Families.{one_emptied, more_room, one_opened, place_most}
use Rattle.recasting.proofs.empty_committee.Goals as goal

pub returns-in-Some : goal.returns-in-Some
returns-in-Some c = λ b h ok r.
    let f = c.in-Some.ensures.found b h ok in
    one_emptied b ok _ _ _ f.0 f.1 (c.clear_members.ensures b h f.0)

pub returns-then-k-ge-MOST_COMMITTEES : goal.returns-then-k-ge-MOST_COMMITTEES
returns-then-k-ge-MOST_COMMITTEES c = λ b h ok r.
    let s = c.args.shard.0 in
    absurd (omega (arith, more_room s [] b.committees (good_of_lem b ok).committees.rising (c.in_default.ensures.found b h ok) r, c.place_of-k.ensures.1 b h (committees_rise b ok), place_most s b.committees, c.if-k-ge-MOST_COMMITTEES.true))

pub returns : goal.returns
returns c = λ b h ok r.
    let n = c.in_default.ensures.found b h ok in
    let e = c.place_of-k.ensures.1 b h (committees_rise b ok) in
    let s = c.args.shard.0 in
    one_opened b ok _ _ n _ e (c.open.ensures b h (more_room s [] b.committees (good_of_lem b ok).committees.rising n r) (rw e (place_most s b.committees)))
