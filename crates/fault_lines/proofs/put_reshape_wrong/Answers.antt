use Rattle.phrases.specs.Texts.{bytes}
use Rattle.fault_lines.specs.Faults.{reshape_wrong}
use Rattle.fault_lines.proofs.put_reshape_wrong.Goals as goal

pub returns-in-Overlapping : goal.returns-in-Overlapping
unfolding bytes reshape_wrong
returns-in-Overlapping c = rw c.in-Overlapping.is c.put_named.ensures

pub returns-in-Unfounded : goal.returns-in-Unfounded
unfolding bytes reshape_wrong
returns-in-Unfounded c = rw c.in-Unfounded.is c.put_text.ensures
