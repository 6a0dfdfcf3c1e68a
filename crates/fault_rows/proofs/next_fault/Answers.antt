use Prim.Native.Nat.{ℕ}
use Rattle.faults.specs.Firsts.{stray_member, absent_seat, sharing_rotation, rotation_there, unhalved_machine, overlapping_reshape}
use Rattle.fault_rows.specs.Clauses.{rows_outside, next_fault}
use Rattle.fault_rows.proofs.Reached.{at_row}
use Rattle.fault_rows.proofs.next_fault.Goals as goal

pub returns-in-StrayMember : goal.returns-in-StrayMember
unfolding rows_outside next_fault
returns-in-StrayMember c = (c.next_stray_member.ensures.0, λ b h w l. rw c.in-StrayMember.is (at_row (λ (j : ℕ). stray_member b j c.args.at) _ _ _ _ h.fits.committees c.row_below.ensures.1 (c.next_stray_member.ensures.1 b h w) (rw c.in-StrayMember.is at l)))

pub returns-in-Unlisted : goal.returns-in-Unlisted
unfolding rows_outside next_fault
returns-in-Unlisted c = (c.next_unlisted_machine.ensures.0, λ b h w l. rw c.in-Unlisted.is (c.next_unlisted_machine.ensures.1 b h w))

pub returns-in-AbsentSeat : goal.returns-in-AbsentSeat
unfolding rows_outside next_fault
returns-in-AbsentSeat c = (c.next_absent_seat.ensures.0, λ b h w l. rw c.in-AbsentSeat.is (at_row (λ (j : ℕ). absent_seat b j c.args.at) _ _ _ _ h.fits.reshapes c.row_below-in-AbsentSeat.ensures.1 (c.next_absent_seat.ensures.1 b h w) (rw c.in-AbsentSeat.is at l)))

pub returns-in-Unseated : goal.returns-in-Unseated
unfolding rows_outside next_fault
returns-in-Unseated c = (c.next_unseated_rotation.ensures.0, λ b h w l. rw c.in-Unseated.is (c.next_unseated_rotation.ensures.1 b h w))

pub returns-in-SharedParty : goal.returns-in-SharedParty
unfolding rows_outside next_fault
returns-in-SharedParty c = (c.next_sharing_rotation.ensures.0, λ b h w l. rw c.in-SharedParty.is (at_row (λ (j : ℕ). sharing_rotation b j c.args.at) _ _ _ _ h.fits.rotations c.row_below-in-SharedParty.ensures.1 (c.next_sharing_rotation.ensures.1 b h) (rw c.in-SharedParty.is at l)))

pub returns-in-SplitThere : goal.returns-in-SplitThere
unfolding rows_outside next_fault
returns-in-SplitThere c = (c.next_rotation_there.ensures.0, λ b h w l. rw c.in-SplitThere.is (at_row (λ (j : ℕ). rotation_there b j c.args.at) _ _ _ _ h.fits.reshapes c.row_below-in-SplitThere.ensures.1 (c.next_rotation_there.ensures.1 b h) (rw c.in-SplitThere.is at l)))

pub returns-in-Unhalved : goal.returns-in-Unhalved
unfolding rows_outside next_fault
returns-in-Unhalved c = (c.next_unhalved_machine.ensures.0, λ b h w l. rw c.in-Unhalved.is (at_row (λ (j : ℕ). unhalved_machine b j c.args.at) _ _ _ _ h.fits.reshapes c.row_below-in-Unhalved.ensures.1 (c.next_unhalved_machine.ensures.1 b h) (rw c.in-Unhalved.is at l)))

pub returns-in-Overlapping : goal.returns-in-Overlapping
unfolding rows_outside next_fault
returns-in-Overlapping c = (c.next_overlapping_reshape.ensures.0, λ b h w l. rw c.in-Overlapping.is (at_row (λ (j : ℕ). overlapping_reshape b j c.args.at) _ _ _ _ h.fits.reshapes c.row_below-in-Overlapping.ensures.1 (c.next_overlapping_reshape.ensures.1 b h) (rw c.in-Overlapping.is at l)))

pub returns-in-Unfounded : goal.returns-in-Unfounded
unfolding rows_outside next_fault
returns-in-Unfounded c = (c.next_unfounded_reshape.ensures.0, λ b h w l. rw c.in-Unfounded.is (c.next_unfounded_reshape.ensures.1 b h w))
