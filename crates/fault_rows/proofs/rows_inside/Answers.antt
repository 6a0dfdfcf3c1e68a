use Prim.Native.Nat.{ℕ}
use lib.ListN.{length, get_or}
use Rattle.board.specs.Held.{no_committee, no_reshape}
use Rattle.fault_rows.specs.Clauses.{rows_outside, rows_inside}
use Rattle.fault_rows.proofs.Reached.{at_row}
use Rattle.fault_rows.proofs.rows_inside.Goals as goal

pub returns-in-StrayMember : goal.returns-in-StrayMember
unfolding rows_outside rows_inside
returns-in-StrayMember c = λ b h l. rw c.in-StrayMember.is (at_row (λ (j : ℕ). length (get_or b.committees j no_committee).val) _ _ _ _ h.fits.committees c.row_below.ensures.1 (c.member_count.ensures b h) (rw c.in-StrayMember.is at l))

pub returns-in-Unlisted : goal.returns-in-Unlisted
unfolding rows_outside rows_inside
returns-in-Unlisted c = λ b h l. rw c.in-Unlisted.is (c.count.ensures b h)

pub returns-in-AbsentSeat : goal.returns-in-AbsentSeat
unfolding rows_outside rows_inside
returns-in-AbsentSeat c = λ b h l. rw c.in-AbsentSeat.is (at_row (λ (j : ℕ). length (get_or b.reshapes j no_reshape).val.seats) _ _ _ _ h.fits.reshapes c.row_below-in-AbsentSeat.ensures.1 (c.count-in-AbsentSeat.ensures b h) (rw c.in-AbsentSeat.is at l))

pub returns-in-Unseated : goal.returns-in-Unseated
unfolding rows_outside rows_inside
returns-in-Unseated c = λ b h l. rw c.in-Unseated.is (c.count-in-Unseated.ensures b h)

pub returns-in-SharedParty : goal.returns-in-SharedParty
unfolding rows_outside rows_inside
returns-in-SharedParty c = λ b h l. rw c.in-SharedParty.is (c.count-in-SharedParty.ensures b h)

pub returns-in-SplitThere : goal.returns-in-SplitThere
unfolding rows_outside rows_inside
returns-in-SplitThere c = λ b h l. rw c.in-SplitThere.is (c.count-in-SplitThere.ensures b h)

pub returns-in-Unhalved : goal.returns-in-Unhalved
unfolding rows_outside rows_inside
returns-in-Unhalved c = λ b h l. rw c.in-Unhalved.is (c.count-in-Unhalved.ensures b h)

pub returns-in-Overlapping : goal.returns-in-Overlapping
unfolding rows_outside rows_inside
returns-in-Overlapping c = λ b h l. rw c.in-Overlapping.is (c.count-in-Overlapping.ensures b h)

pub returns-in-Unfounded : goal.returns-in-Unfounded
unfolding rows_outside rows_inside
returns-in-Unfounded c = λ b h l. rw c.in-Unfounded.is (c.count-in-Unfounded.ensures b h)
