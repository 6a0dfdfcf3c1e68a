use native.Mathlib.Omega.{arith}
use Rattle.rules.proofs.KeptBoard.{good_of_lem, limits}
use Rattle.board.proofs.Keyed.{bounds_rise}
use Rattle.recasting.proofs.Families.{one_renewed, more_room, bound_opened, place_most}
use Rattle.recasting.proofs.new_boundary.Goals as goal

pub returns-then-epoch-gt-LAST_EPOCH : goal.returns-then-epoch-gt-LAST_EPOCH
returns-then-epoch-gt-LAST_EPOCH c = λ b h ok r. absurd (omega (arith, c.epoch-epoch.ensures b h, (limits _ (good_of_lem b ok).settings).epoch, c.if-epoch-gt-LAST_EPOCH.true))

pub returns-in-Some : goal.returns-in-Some
returns-in-Some c = λ b h ok r.
    let f = c.in-Some.ensures.found b h ok in
    one_renewed b ok _ _ _ _ f.0 f.1 (rw (c.epoch-epoch.ensures b h) at (c.renew.ensures b h f.0))

pub returns-then-k-ge-MOST_BOUNDS : goal.returns-then-k-ge-MOST_BOUNDS
returns-then-k-ge-MOST_BOUNDS c = λ b h ok r.
    let s = c.args.shard.0 in
    absurd (omega (arith, more_room s _ b.bounds (good_of_lem b ok).bounds.rising (c.in_default.ensures.found b h ok) r, c.place_of-k.ensures.1 b h (bounds_rise b ok), place_most s b.bounds, c.if-k-ge-MOST_BOUNDS.true))

pub returns : goal.returns
returns c = λ b h ok r.
    let n = c.in_default.ensures.found b h ok in
    let e = c.place_of-k.ensures.1 b h (bounds_rise b ok) in
    let s = c.args.shard.0 in
    bound_opened b ok _ _ _ n _ e (rw (c.epoch-epoch.ensures b h) at (c.open.ensures b h (more_room s _ b.bounds (good_of_lem b ok).bounds.rising n r) (rw e (place_most s b.bounds))))
