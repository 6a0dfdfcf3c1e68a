use Rattle.std.proofs.Common.{arith}
use Rattle.drains.proofs.Drains.{reads_merge, reads_split}
use Rattle.drains.proofs.Schedules.{marked_both, marked_one, well_marked, found_updated}
use Rattle.drains.proofs.mark_bounds.Goals as goal

pub returns-then-merging : goal.returns-then-merging
returns-then-merging c = λ b h ok l p q.
    let left = c.left.ensures in
    let right = c.right.ensures in
    let f = c.find_bound-left.ensures.found b h ok in
    let g = c.find_bound_beside-right.ensures.found b h ok _ f (omega (arith, left, right)) in
    let m = c.mark_found.ensures b h ok _ f in
    let n = c.mark_found-then-merging.ensures _ m (well_marked b ok _ _ _ p q) _ (found_updated _ _ _ _ b.bounds _ g) in
    marked_both b _ _ _ _ (reads_merge _ _ (c.is_merge-merging.ensures b h l) c.if-merging.true) (rw (left, right) at n)

pub returns : goal.returns
returns c = λ b h ok l p q.
    marked_one b _ _ _ _ (reads_split _ _ (c.is_merge-merging.ensures b h l) c.if-merging.false) (c.mark_found-2.ensures b h ok _ (c.find_bound-own.ensures.found b h ok))
