use mathlib.Core.Path.{◌∙◌, refl, sym}
use Rattle.types.specs.Places.{is_ready}
use Rattle.rules.proofs.Tests.{of_not, of_no}
use Rattle.shards.specs.Rotations.{rotation_of}
use Rattle.committee.proofs.Asked.{counts_elsewhere, counts_open, counts_in_flight}
use Rattle.committee.proofs.reads.counts_at.Goals as goal

pub returns-then-ne : goal.returns-then-ne
returns-then-ne c = λ b h ok l. let p = c.args in rw (← c.at-r.ensures b h l) (counts_elsewhere p.shard.0 b (rotation_of c.at-r.result) p.which (of_not _ (sym c.ne.ensures ∙ c.if-ne.true)))

pub returns-in-Open : goal.returns-in-Open
returns-in-Open c = λ b h ok l. let p = c.args in rw (← c.at-r.ensures b h l) (counts_open p.shard.0 b (rotation_of c.at-r.result) p.which c.in-Open.is (of_no _ (sym c.ne.ensures ∙ c.if-ne.false)))

pub returns-in-InFlight : goal.returns-in-InFlight
returns-in-InFlight c = λ b h ok l.
    let p = c.args in
    rw (← c.at-r.ensures b h l) (counts_in_flight p.shard.0 b (rotation_of c.at-r.result) p.which c.in-InFlight.is (of_no _ (sym c.ne.ensures ∙ c.if-ne.false)) _ (c.is_ready.ensures ∙ c.place_of.ensures b h ok is_ready refl))
