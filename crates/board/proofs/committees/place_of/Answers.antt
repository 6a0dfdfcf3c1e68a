use Rattle.tables.specs.Rows.{key_of}
use Rattle.board.proofs.Sections.{committees, section_place}
use Rattle.board.proofs.OfCommittees.{committee_key}
use Rattle.board.proofs.committees.place_of.Goals as goal

pub returns : goal.returns
returns c = (c.place_of.ensures.0, λ b h r. section_place committees _ b h key_of committee_key _ _ r c.place_of.ensures.1)
