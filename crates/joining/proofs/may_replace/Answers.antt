use mathlib.Core.Path.{refl, sym, ◌∙◌}
use Rattle.board.proofs.OfCommittees.{members_room}
use Rattle.joining.proofs.Joins.{stands_is, row_here, members_are, members_none}
use Rattle.joining.proofs.Struck.{replace_member, replace_own, replace_room, replace_opens}
use Rattle.joining.proofs.may_replace.Goals as goal

pub has_member-requires : goal.has_member-requires
has_member-requires c = (c.requires, c.stands_at.ensures.0 c.if-stands_at.true)

pub returns-then-has_member-ne : goal.returns-then-has_member-ne
returns-then-has_member-ne c = λ b h r.
    let je = c.place_of-j.ensures.1 b h r in
    let q = sym (c.stands_at.ensures.1 b h ∙ stands_is b _ r _ je) ∙ c.if-stands_at.true in
    let l = (row_here b _ r _ je q).0 in
    replace_member _ _ _ b _ (members_are b _ r _ je q) q (rw (c.has_member.ensures b h l, c.ne.ensures) at c.if-has_member-ne.true)

pub has_member-requires-then-stands_at : goal.has_member-requires-then-stands_at
has_member-requires-then-stands_at c = (c.requires, c.stands_at.ensures.0 c.if-stands_at.true)

pub returns-then-has_member : goal.returns-then-has_member
returns-then-has_member c = λ b h r.
    let je = c.place_of-j.ensures.1 b h r in
    let q = sym (c.stands_at.ensures.1 b h ∙ stands_is b _ r _ je) ∙ c.if-stands_at.true in
    let l = (row_here b _ r _ je q).0 in
    replace_own _ _ _ b _ (members_are b _ r _ je q) q (rw (c.has_member.ensures b h l, c.ne.ensures) at c.if-has_member-ne.false) (sym (c.has_member-then-stands_at.ensures b h l) ∙ c.if-has_member.true) (members_room _ b h _ l)

pub member_count-members-requires : goal.member_count-members-requires
member_count-members-requires c = (c.requires, c.stands_at.ensures.0 c.if-stands_at.true)

pub returns-then-stands_at : goal.returns-then-stands_at
returns-then-stands_at c = λ b h r.
    let je = c.place_of-j.ensures.1 b h r in
    let q = sym (c.stands_at.ensures.1 b h ∙ stands_is b _ r _ je) ∙ c.if-stands_at.true in
    let l = (row_here b _ r _ je q).0 in
    rw (c.member_count-members.ensures b h l) (replace_room _ _ _ b _ (members_are b _ r _ je q) q (rw (c.has_member.ensures b h l, c.ne.ensures) at c.if-has_member-ne.false) (sym (c.has_member-then-stands_at.ensures b h l) ∙ c.if-has_member.false))

pub returns : goal.returns
returns c = λ b h r.
    let je = c.place_of-j.ensures.1 b h r in
    let q = sym (c.stands_at.ensures.1 b h ∙ stands_is b _ r _ je) ∙ c.if-stands_at.false in
    rw (c.count.ensures b h) (replace_opens _ _ _ b _ (members_none b _ r _ je q) refl q)
