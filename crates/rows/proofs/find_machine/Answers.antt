use Rattle.board.specs.Held.{no_machine}
use Rattle.board.proofs.Sections.{machines}
use Rattle.board.proofs.Keyed.{machines_rise}
use Rattle.board.proofs.OfMachines.{machine_key}
use Rattle.rows.proofs.Searches.{section_finds}
use Rattle.rows.proofs.find_machine.Goals as goal

pub returns-clause-found : goal.returns-clause-found
returns-clause-found c = λ b h ok. section_finds machines _ b h machine_key _ no_machine _ (machines_rise b ok) c.find_row.ensures.found
