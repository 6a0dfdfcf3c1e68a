use Rattle.rules.specs.Board.{most_rotations}
use Rattle.tables.specs.Rows.{remove_at}
use Rattle.board.proofs.Sections.{rotations, section_removed}
use Rattle.board.proofs.Fitting.{remove_room, held_rotations}
use Rattle.shards.proofs.rotations.close.Goals as goal

pub returns : goal.returns
returns c = λ b h l.
    let i = c.args.i in
    held_rotations _ b h _ (remove_at b.rotations i) (section_removed rotations _ b h i _ l c.remove_row.ensures) (remove_room most_rotations b.rotations i l h.fits.rotations)
