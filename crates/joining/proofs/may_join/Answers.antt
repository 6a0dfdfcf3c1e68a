use mathlib.Core.Path.{sym, ◌∙◌}
use Rattle.joining.proofs.Joins.{stands_is, row_here, join_member, join_room, join_opens}
use Rattle.joining.proofs.may_join.Goals as goal

pub has_member-requires : goal.has_member-requires
has_member-requires c = (c.requires, c.stands_at.ensures.0 c.if-stands_at.true)

pub returns-then-has_member : goal.returns-then-has_member
returns-then-has_member c = λ b h r.
    let je = c.place_of-j.ensures.1 b h r in
    let q = sym (c.stands_at.ensures.1 b h ∙ stands_is b _ r _ je) ∙ c.if-stands_at.true in
    join_member b _ r _ je _ q (sym (c.has_member.ensures b h (row_here b _ r _ je q).0) ∙ c.if-has_member.true)

pub member_count-requires : goal.member_count-requires
member_count-requires c = (c.requires, c.stands_at.ensures.0 c.if-stands_at.true)

pub returns-then-stands_at : goal.returns-then-stands_at
returns-then-stands_at c = λ b h r.
    let je = c.place_of-j.ensures.1 b h r in
    let q = sym (c.stands_at.ensures.1 b h ∙ stands_is b _ r _ je) ∙ c.if-stands_at.true in
    let l = (row_here b _ r _ je q).0 in
    rw (c.member_count.ensures b h l) (join_room b _ r _ je _ q (sym (c.has_member.ensures b h l) ∙ c.if-has_member.false))

pub returns : goal.returns
returns c = λ b h r.
    let je = c.place_of-j.ensures.1 b h r in
    rw (c.count.ensures b h) (join_opens b _ r _ je _ (sym (c.stands_at.ensures.1 b h ∙ stands_is b _ r _ je) ∙ c.if-stands_at.false))
