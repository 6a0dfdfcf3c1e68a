use Rattle.phrases.specs.Texts.{bytes}
use Rattle.lines.proofs.Lays.{puts_both}
use Rattle.fault_lines.specs.Faults.{rotation_fault_text}
use Rattle.fault_lines.proofs.put_rotation_fault.Goals as goal

pub returns : goal.returns
unfolding bytes rotation_fault_text
returns c = puts_both (puts_both c.put_named-a.ensures c.put_named-b.ensures) c.put_named.ensures
