use mathlib.Core.Path.{sym, ◌∙◌}
use Rattle.joining.proofs.Joins.{place_most, new_within, new_fits, stands_is, row_here, join_fits, opens_fits, join_past, joined_row, joined_new}
use Rattle.joining.proofs.join.Goals as goal

pub returns-then-j-ge-MOST_COMMITTEES : goal.returns-then-j-ge-MOST_COMMITTEES
returns-then-j-ge-MOST_COMMITTEES c = λ b h r m. absurd (join_past b _ r _ (c.place_of-j.ensures.1 b h r) _ m h.fits.committees c.if-j-ge-MOST_COMMITTEES.true)

pub returns-then-stands_at : goal.returns-then-stands_at
returns-then-stands_at c = λ b h r m.
    let je = c.place_of-j.ensures.1 b h r in
    let q = sym (c.stands_at.ensures.1 b h ∙ stands_is b _ r _ je) ∙ c.if-stands_at.true in
    joined_row b _ r _ je _ q _ (c.push_member.ensures b h (row_here b _ r _ je q).0 (join_fits b _ r _ je _ q m))

pub returns : goal.returns
returns c = λ b h r m.
    let je = c.place_of-j.ensures.1 b h r in
    let q = sym (c.stands_at.ensures.1 b h ∙ stands_is b _ r _ je) ∙ c.if-stands_at.false in
    let o = c.open.ensures b h (opens_fits b _ r _ je _ q m) (place_most b _ r _ je) in
    joined_new b _ r _ je _ q _ (c.push_member-2.ensures _ o (new_within b _ r _ je) (new_fits b _ r _ je))
