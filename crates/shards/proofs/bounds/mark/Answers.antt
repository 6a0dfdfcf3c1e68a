use lib.ListN.{get_or}
use Rattle.rules.specs.Table.{entry}
use Rattle.rules.specs.Board.{most_bounds}
use Rattle.rules.specs.Moves.{marked_boundary}
use Rattle.board.specs.Held.{no_boundary}
use Rattle.board.specs.Leaves.{change_at}
use Rattle.board.proofs.Sections.{bounds, row_lent, row_back}
use Rattle.board.proofs.Fitting.{set_room, held_bounds}
use Rattle.shards.proofs.bounds.mark.Goals as goal

pub returns : goal.returns
returns c = λ b h l.
    let a = c.args in
    let x = get_or b.bounds a.i no_boundary in
    let y = entry x.key (marked_boundary a.terminal.0 a.admitted.0 x.val) in
    held_bounds _ b h _ (change_at no_boundary a.i (marked_boundary a.terminal.0 a.admitted.0) b.bounds)
    (row_back bounds _ b h a.i no_boundary l y _ (c.store_marks.ensures x (row_lent bounds _ b h a.i no_boundary l)))
    (set_room most_bounds b.bounds a.i y h.fits.bounds)
