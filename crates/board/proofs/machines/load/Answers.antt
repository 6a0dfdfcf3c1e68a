use Rattle.board.proofs.OfMachines.{machine_back}
use Rattle.board.proofs.machines.load.Goals as goal

pub returns : goal.returns
returns c = λ e q. machine_back _ e _ c.place.ensures q
