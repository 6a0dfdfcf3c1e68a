use Rattle.reshapes.proofs.OfReshapes.{terminal_stored}
use Rattle.reshapes.proofs.fields.store_terminal.Goals as goal

pub returns : goal.returns
returns c = λ e q. terminal_stored e _ _ q
