use Rattle.board.specs.Held.{no_committee}
use Rattle.board.proofs.Sections.{committees}
use Rattle.board.proofs.Keyed.{committees_rise}
use Rattle.board.proofs.OfCommittees.{committee_key}
use Rattle.rows.proofs.Searches.{section_finds}
use Rattle.rows.proofs.find_committee.Goals as goal

pub returns-clause-found : goal.returns-clause-found
returns-clause-found c = λ b h ok. section_finds committees _ b h committee_key _ no_committee _ (committees_rise b ok) c.find_row.ensures.found
