use Rattle.resolving.proofs.Walks.{resolve_done}
use Rattle.resolving.proofs.resolve_pending_rotations_held.Goals as goal

pub returns : goal.returns
returns c = λ b h ok.
    let e = c.close_marked-handled.ensures b h ok (c.marks_of-marks.ensures b h ok) in
    resolve_done b ok _ _ _ e.0 e.1 c.done.ensures
