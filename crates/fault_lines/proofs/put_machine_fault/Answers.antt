use Rattle.phrases.specs.Texts.{bytes}
use Rattle.lines.proofs.Lays.{puts_both}
use Rattle.fault_lines.specs.Faults.{machine_fault_text}
use Rattle.fault_lines.proofs.put_machine_fault.Goals as goal

pub returns : goal.returns
unfolding bytes machine_fault_text
returns c = puts_both c.put_named-a.ensures c.put_machine_wrong.ensures
