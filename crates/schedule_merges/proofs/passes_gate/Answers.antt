use mathlib.Core.Path.{◌∙◌}
use Rattle.schedule_merges.proofs.Merges.{gate_is}
use Rattle.schedule_merges.proofs.passes_gate.Goals as goal

pub returns : goal.returns
returns c = λ b h ok l. c.reaches_quorum.ensures b h ok ∙ gate_is _ b _ (c.ready_seats-ready.ensures.1 b h l)
