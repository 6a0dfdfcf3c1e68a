use Rattle.shards.proofs.OfBounds.{boundary_marked}
use Rattle.shards.proofs.bounds.store_marks.Goals as goal

pub returns : goal.returns
returns c = λ e q. boundary_marked _ e _ _ q
