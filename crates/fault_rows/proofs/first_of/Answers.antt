use Prim.Native.Nat.{ℕ, ◌+◌}
use mathlib.Core.Path.{ap}
use Rattle.fault_rows.specs.Clauses.{first_of}
use Rattle.fault_rows.proofs.first_of.Goals as goal

pub returns-in-StrayMember : goal.returns-in-StrayMember
unfolding first_of
returns-in-StrayMember c = λ h. rw c.in-StrayMember.is

pub returns-in-Unlisted : goal.returns-in-Unlisted
unfolding first_of
returns-in-Unlisted c = λ h. rw c.in-Unlisted.is

pub returns-in-AbsentSeat : goal.returns-in-AbsentSeat
unfolding first_of
returns-in-AbsentSeat c = λ h. rw c.in-AbsentSeat.is

pub returns-in-Unseated : goal.returns-in-Unseated
unfolding first_of
returns-in-Unseated c = λ h. rw c.in-Unseated.is

pub returns-in-SharedParty : goal.returns-in-SharedParty
unfolding first_of
returns-in-SharedParty c = λ h. rw c.in-SharedParty.is (ap (λ (j : ℕ). j + 1) (c.row_below.ensures.1 h))

pub returns-in-SplitThere : goal.returns-in-SplitThere
unfolding first_of
returns-in-SplitThere c = λ h. rw c.in-SplitThere.is

pub returns-in-Unhalved : goal.returns-in-Unhalved
unfolding first_of
returns-in-Unhalved c = λ h. rw c.in-Unhalved.is

pub returns-in-Overlapping : goal.returns-in-Overlapping
unfolding first_of
returns-in-Overlapping c = λ h. rw c.in-Overlapping.is (ap (λ (j : ℕ). j + 1) (c.row_below-in-Overlapping.ensures.1 h))

pub returns-in-Unfounded : goal.returns-in-Unfounded
unfolding first_of
returns-in-Unfounded c = λ h. rw c.in-Unfounded.is
