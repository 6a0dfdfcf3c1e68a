use Rattle.rules.specs.Board.{most_bounds, most_rotations}
use Rattle.board.specs.Layout.{boundary_width, rotation_width, bounds_at, rotations_at, reshapes_at}
use Rattle.packing.specs.Packed.{between, flat}
use Rattle.packing.proofs.Lefts.{room, next, last_room, last}
use Rattle.packing.proofs.Sums.{bounds_start, bounds_long, rotations_long, reshapes_long}
use Rattle.packing.proofs.put_from_bounds.Goals as goal

pub put_flat-b-requires : goal.put_flat-b-requires
put_flat-b-requires c = let a = c.args in
    let t = a.t.now in
    let l0 = bounds_start t a.out.now a.at c.requires.1 in
    (bounds_long t c.requires.0, room (flat boundary_width most_bounds (between bounds_at rotations_at t)) _ l0)

pub put_flat-o-requires : goal.put_flat-o-requires
put_flat-o-requires c = let a = c.args in
    let t = a.t.now in
    let l0 = bounds_start t a.out.now a.at c.requires.1 in
    let l1 = next (flat boundary_width most_bounds (between bounds_at rotations_at t)) _ l0 c.put_flat-b.ensures in
    (rotations_long t c.requires.0, room (flat rotation_width most_rotations (between rotations_at reshapes_at t)) _ l1)

pub put_rows-requires : goal.put_rows-requires
put_rows-requires c = let a = c.args in
    let t = a.t.now in
    let l0 = bounds_start t a.out.now a.at c.requires.1 in
    let l1 = next (flat boundary_width most_bounds (between bounds_at rotations_at t)) _ l0 c.put_flat-b.ensures in
    let l2 = next (flat rotation_width most_rotations (between rotations_at reshapes_at t)) _ l1 c.put_flat-o.ensures in
    (reshapes_long t c.requires.0, last_room _ l2)

pub returns : goal.returns
returns c = let a = c.args in
    let t = a.t.now in
    let l0 = bounds_start t a.out.now a.at c.requires.1 in
    let l1 = next (flat boundary_width most_bounds (between bounds_at rotations_at t)) _ l0 c.put_flat-b.ensures in
    let l2 = next (flat rotation_width most_rotations (between rotations_at reshapes_at t)) _ l1 c.put_flat-o.ensures in
    last _ l2 c.put_rows.ensures
