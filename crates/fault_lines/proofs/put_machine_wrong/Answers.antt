use Rattle.phrases.specs.Texts.{bytes}
use Rattle.lines.proofs.Lays.{puts_both}
use Rattle.fault_lines.specs.Faults.{machine_wrong}
use Rattle.fault_lines.proofs.put_machine_wrong.Goals as goal

pub returns-in-StrayMember : goal.returns-in-StrayMember
unfolding bytes machine_wrong
returns-in-StrayMember c = rw c.in-StrayMember.is (puts_both c.put_named-a.ensures c.put_text.ensures)

pub returns-in-Unlisted : goal.returns-in-Unlisted
unfolding bytes machine_wrong
returns-in-Unlisted c = rw c.in-Unlisted.is c.put_text-in-Unlisted.ensures

pub returns-in-AbsentSeat : goal.returns-in-AbsentSeat
unfolding bytes machine_wrong
returns-in-AbsentSeat c = rw c.in-AbsentSeat.is (puts_both c.put_named-a-in-AbsentSeat.ensures c.put_text-in-AbsentSeat.ensures)

pub returns-in-Unhalved : goal.returns-in-Unhalved
unfolding bytes machine_wrong
returns-in-Unhalved c = rw c.in-Unhalved.is c.put_named.ensures
