use mathlib.Core.Path.{sym}
use Rattle.shards.specs.Rotations.{rotation_of}
use Rattle.committee.proofs.Aborts.{entrant_leaves, entrant_stays}
use Rattle.committee.proofs.abort.take_off_entrant.Goals as goal

pub returns-then-eq : goal.returns-then-eq
returns-then-eq c = λ b h ok l. rw (← c.at-r.ensures b h l) (entrant_leaves _ b (rotation_of c.at-r.result) _ (sym c.if-eq.ensures) (c.take_off.ensures b h ok))

pub returns-else-eq : goal.returns-else-eq
returns-else-eq c = λ b h ok l. rw (← c.at-r.ensures b h l) (entrant_stays _ b (rotation_of c.at-r.result) _ (sym c.if-eq.ensures) h)
