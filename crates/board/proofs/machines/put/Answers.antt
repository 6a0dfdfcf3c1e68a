use mathlib.Core.Path.{◌∙◌}
use lib.ListN.{set}
use Rattle.rules.specs.Board.{most_machines}
use Rattle.board.specs.Held.{no_machine}
use Rattle.board.specs.Leaves.{machine_entry}
use Rattle.board.proofs.Sections.{machines, row_back}
use Rattle.board.proofs.Fitting.{set_room, held_machines}
use Rattle.board.proofs.machines.put.Goals as goal

pub returns : goal.returns
returns c = λ b h l.
    let a = c.args in
    held_machines _ b h _ (set b.machines a.i (machine_entry a.m))
    (row_back machines _ b h a.i no_machine l (machine_entry a.m) _ (c.copy_from_slice.ensures.after ∙ c.row.ensures))
    (set_room most_machines b.machines a.i (machine_entry a.m) h.fits.machines)
