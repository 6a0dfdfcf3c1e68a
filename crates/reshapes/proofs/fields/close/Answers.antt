use Rattle.rules.specs.Board.{most_reshapes}
use Rattle.tables.specs.Rows.{remove_at}
use Rattle.board.specs.Held.{roomy_reshape}
use Rattle.board.proofs.Sections.{reshapes, section_removed}
use Rattle.board.proofs.Fitting.{every_remove, remove_room, held_reshapes}
use Rattle.reshapes.proofs.fields.close.Goals as goal

pub returns : goal.returns
returns c = λ b h l.
    let i = c.args.i in
    held_reshapes _ b h _ (remove_at b.reshapes i) (section_removed reshapes _ b h i _ l c.remove_row.ensures)
    (remove_room most_reshapes b.reshapes i l h.fits.reshapes) (every_remove roomy_reshape b.reshapes i h.fits.lists)
