use Rattle.tables.specs.Rows.{key_of}
use Rattle.board.proofs.Sections.{reshapes, section_place}
use Rattle.reshapes.proofs.OfReshapes.{target_is}
use Rattle.reshapes.proofs.fields.place_of.Goals as goal

pub returns : goal.returns
returns c = (c.place_of.ensures.0, λ b h r. section_place reshapes _ b h key_of target_is _ _ r c.place_of.ensures.1)
