use Rattle.seats.proofs.Checked.{all_hold}
use Rattle.seats.proofs.seat_check_held.Goals as goal

pub returns : goal.returns
returns c = λ b h ok.
    all_hold b ok _ _ _ _ _ _ _ (c.members_are_there.ensures b h ok) (c.machines_are_listed.ensures b h ok) (c.cohorts_watch.ensures b h ok) (c.rotations_fit.ensures b h ok) (c.scheduled_fit.ensures b h ok) (c.families_apart.ensures b h) (c.reshapes_stand.ensures b h ok)
