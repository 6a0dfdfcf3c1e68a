use Prim.Native.Nat.{◌<◌}
use mathlib.Core.Path.{ap}
use native.Mathlib.Omega.{arith}
use lib.ListN.{length}
use Rattle.rules.specs.Table.{Table, entry}
use Rattle.rules.specs.Board.{Reshape, most_reshapes, on_reshapes}
use Rattle.tables.specs.Rows.{insert_at}
use Rattle.board.specs.Held.{no_reshape, roomy_reshape}
use Rattle.board.proofs.Sections.{reshapes, section_opened}
use Rattle.board.proofs.Fitting.{insert_at_lem, insert_room, insert_length, set_insert, every_insert, held_as, held_reshapes}
use Rattle.reshapes.specs.Changes.{kind_of, newly_admitted}
use Rattle.reshapes.proofs.OfReshapes.{no_reshape_lem, roomy_none}
use Rattle.reshapes.proofs.fields.open.Goals as goal

pub returns : goal.returns
returns c = λ b h l m.
    let a = c.args in
    let t = insert_at b.reshapes a.i no_reshape in
    let y = entry a.target.0 (newly_admitted (kind_of a.merging) a.admitted.0) in
    let k = held_reshapes _ b h _ t (section_opened reshapes _ b h a.i no_reshape _ no_reshape_lem l m c.open_row.ensures)
    (insert_room most_reshapes b.reshapes a.i no_reshape m l) (every_insert roomy_reshape b.reshapes a.i no_reshape h.fits.lists roomy_none) in
    let v : a.i < length t = omega (arith, insert_length b.reshapes a.i no_reshape m) in
    held_as _ _ _ (ap (λ (x : Table Reshape). on_reshapes (λ _. x) b) (set_insert b.reshapes a.i no_reshape y m)) (c.fill.ensures (on_reshapes (λ _. t) b) k v (insert_at_lem b.reshapes a.i no_reshape no_reshape m))
