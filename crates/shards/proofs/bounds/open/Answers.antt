use mathlib.Core.Path.{ap}
use native.Mathlib.Omega.{arith}
use Rattle.rules.specs.Table.{entry, Table}
use Rattle.rules.specs.Board.{Boundary, most_bounds, on_bounds}
use Rattle.rules.specs.Moves.{new_boundary}
use Rattle.tables.specs.Rows.{insert_at}
use Rattle.board.specs.Held.{no_boundary}
use Rattle.board.proofs.Sections.{bounds, section_opened}
use Rattle.board.proofs.Fitting.{insert_room, insert_length, set_insert, held_bounds, held_as}
use Rattle.shards.proofs.OfBounds.{no_boundary_lem}
use Rattle.shards.proofs.bounds.open.Goals as goal

pub returns : goal.returns
returns c = λ b h l m.
    let a = c.args in
    let t = insert_at b.bounds a.i no_boundary in
    let y = entry a.shard.0 (new_boundary a.height.0 a.epoch.0) in
    let k = held_bounds _ b h _ t (section_opened bounds _ b h a.i no_boundary _ no_boundary_lem l m c.open_row.ensures) (insert_room most_bounds b.bounds a.i no_boundary m l) in
    held_as _ _ _ (ap (λ (x : Table Boundary). on_bounds (λ _. x) b) (set_insert b.bounds a.i no_boundary y m))
    (c.renew.ensures (on_bounds (λ _. t) b) k (omega (arith, insert_length b.bounds a.i no_boundary m)))
