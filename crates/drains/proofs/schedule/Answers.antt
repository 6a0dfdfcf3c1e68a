use Rattle.std.proofs.Common.{refl, arith, length-set}
use Rattle.drains.proofs.Schedules.{sum_is, terminal_good, admitted_good, marked_alone, terminal_set}
use Rattle.drains.proofs.schedule.Goals as goal

pub returns : goal.returns
returns c = λ b h ok r.
    let te = sum_is b ok _ _ _ 1 (c.epoch.ensures b h) refl (omega arith) c.later-terminal.ensures in
    let ad = c.admitted_at-admitted.ensures b h r.inside in
    let m = marked_alone b ok _ _ r _ _ te ad _ (c.mark_bounds.ensures b h ok r.inside (terminal_good b ok _ _ r _ _ te ad) (admitted_good b ok _ _ r _ _ te ad)) in
    let n = c.set_terminal.ensures _ m r.inside in
    let p = c.clear.ensures _ n (simp length-set r.inside) in
    let q = c.clear-2.ensures _ p (simp length-set r.inside) in
    terminal_set b ok _ _ r _ _ te ad _ q
