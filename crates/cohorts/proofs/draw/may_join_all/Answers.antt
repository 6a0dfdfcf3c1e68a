use mathlib.Core.Path.{sym}
use Rattle.cohorts.proofs.Draws.{all_open, one_there, all_room}
use Rattle.cohorts.proofs.draw.may_join_all.Goals as goal

pub returns-in_default : goal.returns-in_default
returns-in_default c = λ b h ok. rw (c.count.ensures b h) (all_open b _ _ c.requires.1 (c.in_default.ensures.found b h ok))

pub returns-then-none_joined : goal.returns-then-none_joined
returns-then-none_joined c = λ b h ok.
    let f = c.in-Some.ensures.found b h ok in
    all_room b _ _ c.requires.1 ok _ f.0 f.1 (sym (c.if-none_joined.ensures b h f.0)) _ (c.member_count.ensures b h f.0)

pub returns : goal.returns
returns c = λ b h ok.
    let f = c.in-Some.ensures.found b h ok in
    one_there b _ _ c.requires.1 ok _ f.0 f.1 (sym (c.if-none_joined.ensures b h f.0))
