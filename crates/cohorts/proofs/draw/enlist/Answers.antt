use mathlib.Core.Path.{refl, sym}
use Rattle.cohorts.proofs.draw.enlist.Goals as goal

pub returns-then-not-may_join_all : goal.returns-then-not-may_join_all
returns-then-not-may_join_all c = λ b h ok l e empty good. rw (sym (c.if-not-may_join_all.ensures b h ok)) (refl, h)

pub returns : goal.returns
returns c = λ b h ok l e empty good.
    let m = sym (c.if-not-may_join_all.ensures b h ok) in
    rw m (c.done.ensures, c.watch_all.ensures b h ok l e empty good m)
