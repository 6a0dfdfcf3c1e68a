use mathlib.Core.Path.{ap}
use mathlib.Core.List.{List}
use native.Mathlib.Omega.{arith}
use Rattle.rules.specs.Board.{Rotation, most_rotations, on_rotations}
use Rattle.tables.specs.Rows.{insert_at}
use Rattle.board.specs.Held.{no_rotation}
use Rattle.board.proofs.Sections.{rotations, section_opened}
use Rattle.board.proofs.Fitting.{insert_room, insert_length, set_insert, held_rotations, held_as}
use Rattle.shards.specs.Rotations.{rotation_of}
use Rattle.shards.proofs.OfRotations.{no_rotation_lem}
use Rattle.shards.proofs.rotations.open.Goals as goal

pub returns : goal.returns
returns c = λ b h l m.
    let a = c.args in
    let t = insert_at b.rotations a.i no_rotation in
    let k = held_rotations _ b h _ t (section_opened rotations _ b h a.i no_rotation _ no_rotation_lem l m c.open_row.ensures)
    (insert_room most_rotations b.rotations a.i no_rotation m l) in
    held_as _ _ _ (ap (λ (x : List Rotation). on_rotations (λ _. x) b) (set_insert b.rotations a.i no_rotation (rotation_of a.r) m))
    (c.put.ensures (on_rotations (λ _. t) b) k (omega (arith, insert_length b.rotations a.i no_rotation m)))
