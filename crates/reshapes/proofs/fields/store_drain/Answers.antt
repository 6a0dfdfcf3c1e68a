use Rattle.reshapes.proofs.OfReshapes.{drain_stored}
use Rattle.reshapes.proofs.fields.store_drain.Goals as goal

pub returns : goal.returns
returns c = λ e q. drain_stored e _ _ q
