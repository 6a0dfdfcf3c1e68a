use Rattle.tables.specs.Rows.{key_of}
use Rattle.board.proofs.Sections.{bounds, section_place}
use Rattle.shards.proofs.OfBounds.{boundary_key}
use Rattle.shards.proofs.bounds.place_of.Goals as goal

pub returns : goal.returns
returns c = (c.place_of.ensures.0, λ b h r. section_place bounds _ b h key_of boundary_key _ _ r c.place_of.ensures.1)
