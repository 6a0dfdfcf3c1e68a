use Rattle.board.specs.Held.{no_reshape}
use Rattle.board.proofs.Sections.{reshapes}
use Rattle.board.proofs.Keyed.{reshapes_rise}
use Rattle.reshapes.proofs.OfReshapes.{target_is}
use Rattle.rows.proofs.Searches.{section_finds}
use Rattle.rows.proofs.find_reshape.Goals as goal

pub returns-clause-found : goal.returns-clause-found
returns-clause-found c = λ b h ok. section_finds reshapes _ b h target_is _ no_reshape _ (reshapes_rise b ok) c.find_among_few.ensures.found
