use native.Mathlib.Omega.{arith}
use lib.ListN.{length-take}
use Rattle.halving.proofs.Halves.{lent_rest, lent_front, base_holds, base_inside, left_room, lefts_inside, right_room, halves_set}
use Rattle.halving.proofs.schedule.Goals as goal

pub slice_bounds-store_half-end : goal.slice_bounds-store_half-end
slice_bounds-store_half-end c = rw length-take (omega (arith, c.left_size-n.ensures))

pub returns : goal.returns
returns c = λ b h ok r.
    let few = c.requires.3 in
    let ids = c.args.ids.now in
    let n = c.left_size-n.ensures in
    let d = lent_front ids _ n in
    let e = lent_rest ids _ n in
    let base = base_holds b ok _ _ r _ (c.schedule.ensures b h ok r) in
    let left = c.store_half.ensures _ base (base_inside b ok _ _ r) (left_room b ok _ _ r ids few _ _ d e) in
    halves_set b ok _ _ r ids few _ _ d e _ (c.store_half-2.ensures _ left (lefts_inside b ok _ _ r ids few _ _ d e) (right_room b ok _ _ r ids few _ _ d e))
