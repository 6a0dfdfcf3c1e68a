use Rattle.fault_rows.specs.Clauses.{rows_outside}
use Rattle.fault_rows.proofs.rows_outside.Goals as goal

pub returns-in-StrayMember : goal.returns-in-StrayMember
unfolding rows_outside
returns-in-StrayMember c = λ b h. rw c.in-StrayMember.is (c.count.ensures b h)

pub returns-in-Unlisted : goal.returns-in-Unlisted
unfolding rows_outside
returns-in-Unlisted c = λ b h. rw c.in-Unlisted.is

pub returns-in-AbsentSeat : goal.returns-in-AbsentSeat
unfolding rows_outside
returns-in-AbsentSeat c = λ b h. rw c.in-AbsentSeat.is (c.count-in-AbsentSeat.ensures b h)

pub returns-in-Unseated : goal.returns-in-Unseated
unfolding rows_outside
returns-in-Unseated c = λ b h. rw c.in-Unseated.is

pub returns-in-SharedParty : goal.returns-in-SharedParty
unfolding rows_outside
returns-in-SharedParty c = λ b h. rw c.in-SharedParty.is (c.count-in-SharedParty.ensures b h)

pub returns-in-SplitThere : goal.returns-in-SplitThere
unfolding rows_outside
returns-in-SplitThere c = λ b h. rw c.in-SplitThere.is (c.count-in-SplitThere.ensures b h)

pub returns-in-Unhalved : goal.returns-in-Unhalved
unfolding rows_outside
returns-in-Unhalved c = λ b h. rw c.in-Unhalved.is (c.count-in-Unhalved.ensures b h)

pub returns-in-Overlapping : goal.returns-in-Overlapping
unfolding rows_outside
returns-in-Overlapping c = λ b h. rw c.in-Overlapping.is (c.count-in-Overlapping.ensures b h)

pub returns-in-Unfounded : goal.returns-in-Unfounded
unfolding rows_outside
returns-in-Unfounded c = λ b h. rw c.in-Unfounded.is
