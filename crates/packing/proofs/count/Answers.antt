use Rattle.packing.specs.Packed.{count_of}
use Rattle.packing.proofs.count.Goals as goal

pub returns : goal.returns
unfolding count_of
returns c = c.min.ensures
