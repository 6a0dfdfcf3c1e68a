use Rattle.unpacking.proofs.Boards.{bounds_read, no_bounds, no_rotations}
use Rattle.unpacking.proofs.unpack_from_bounds.Goals as goal

pub returns-in_err-rotations : goal.returns-in_err-rotations
returns-in_err-rotations c = λ ws h. rw c.from_residual.ensures (no_bounds _ (c.in_err-rotations.ensures ws h))

pub returns-in_err-reshapes : goal.returns-in_err-reshapes
returns-in_err-reshapes c = λ ws h. rw c.from_residual-in_err-reshapes.ensures (no_rotations _ (c.in_ok-rotations.ensures ws h) (c.in_err-reshapes.ensures ws h))

pub returns : goal.returns
returns c =
    bounds_read c.in_ok-rotations.ensures c.in_ok-reshapes.ensures c.unpack_section-3.ensures c.args.board.now c.requires c.unpack_section.auto.out c.unpack_section-2.auto.out
    c.unpack_section-3.auto.out
