use Rattle.rules.specs.Board.{most_committees}
use Rattle.tables.specs.Rows.{insert_at}
use Rattle.board.specs.Held.{no_committee, roomy_committee}
use Rattle.board.proofs.Sections.{committees, section_opened}
use Rattle.board.proofs.Fitting.{every_insert, insert_room, held_committees}
use Rattle.board.proofs.OfCommittees.{no_committee_lem, roomy_none, committee_opened}
use Rattle.board.proofs.committees.open.Goals as goal

pub returns : goal.returns
returns c = λ b h l m.
    let a = c.args in
    committee_opened _ b a.j _
    (held_committees _ b h _ (insert_at b.committees a.j no_committee) (section_opened committees _ b h a.j no_committee _ no_committee_lem l m c.open_row.ensures)
    (insert_room most_committees b.committees a.j no_committee m l) (every_insert roomy_committee b.committees a.j no_committee h.fits.members roomy_none))
    m
