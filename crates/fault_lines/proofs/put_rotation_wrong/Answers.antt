use Rattle.phrases.specs.Texts.{bytes}
use Rattle.fault_lines.specs.Faults.{rotation_wrong}
use Rattle.fault_lines.proofs.put_rotation_wrong.Goals as goal

pub returns-in-Unseated : goal.returns-in-Unseated
unfolding bytes rotation_wrong
returns-in-Unseated c = rw c.in-Unseated.is c.put_text.ensures

pub returns-in-SharedParty : goal.returns-in-SharedParty
unfolding bytes rotation_wrong
returns-in-SharedParty c = rw c.in-SharedParty.is c.put_text-in-SharedParty.ensures

pub returns-in-SplitThere : goal.returns-in-SplitThere
unfolding bytes rotation_wrong
returns-in-SplitThere c = rw c.in-SplitThere.is c.put_text-in-SplitThere.ensures
