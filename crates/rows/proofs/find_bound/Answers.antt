use Rattle.board.specs.Held.{no_boundary}
use Rattle.board.proofs.Sections.{bounds}
use Rattle.board.proofs.Keyed.{bounds_rise}
use Rattle.shards.proofs.OfBounds.{boundary_key}
use Rattle.rows.proofs.Searches.{section_finds}
use Rattle.rows.proofs.find_bound.Goals as goal

pub returns-clause-found : goal.returns-clause-found
returns-clause-found c = λ b h ok. section_finds bounds _ b h boundary_key _ no_boundary _ (bounds_rise b ok) c.find_row.ensures.found
