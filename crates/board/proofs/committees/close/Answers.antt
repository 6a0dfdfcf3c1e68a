use Rattle.rules.specs.Board.{most_committees}
use Rattle.tables.specs.Rows.{remove_at}
use Rattle.board.specs.Held.{roomy_committee}
use Rattle.board.proofs.Sections.{committees, section_removed}
use Rattle.board.proofs.Fitting.{every_remove, remove_room, held_committees}
use Rattle.board.proofs.committees.close.Goals as goal

pub returns : goal.returns
returns c = λ b h l.
    let j = c.args.j in
    held_committees _ b h _ (remove_at b.committees j) (section_removed committees _ b h j _ l c.remove_row.ensures)
    (remove_room most_committees b.committees j l h.fits.committees) (every_remove roomy_committee b.committees j h.fits.members)
