use mathlib.Core.Path.{sym, ◌∙◌}
use native.Mathlib.Omega.{arith}
use Rattle.reading.proofs.Streams.{last_is}
use Rattle.stops.proofs.Rows.{row_end_is}
use Rattle.stops.proofs.Sections.{rows_stop, rows_go_on, rows_end, count_stops, count_good}
use Rattle.stops.proofs.section.Goals as goal

pub returns-in_default : goal.returns-in_default
returns-in_default c = λ ws h. count_stops _ _ ws _ (c.in_default.ensures.read ws h)

pub loop-after-init : goal.loop-after-init
loop-after-init c = λ ws h. count_good _ _ ws _ _ (c.in-Some.ensures.read ws h)

pub returns-in_default-row_end : goal.returns-in_default-row_end
returns-in_default-row_end c = λ ws h.
    let r = row_end_is _ _ ws _ _ (c.in_default-row_end.ensures ws h) in
    sym (rows_stop _ ws c.loop-after.after c.loop-after.next _ (omega arith) (last_is _ _ (omega arith)) r) ∙ c.loop-after.invariant ws h

pub loop-after-preserved : goal.loop-after-preserved
loop-after-preserved c = λ ws h.
    let r = row_end_is _ _ ws _ _ (c.in-Some-row_end.ensures ws h) in
    sym (rows_go_on _ ws c.loop-after.after c.loop-after.next _ (omega arith) (last_is _ _ (omega arith)) _ r) ∙ c.loop-after.invariant ws h

pub returns : goal.returns
returns c = λ ws h. rows_end _ ws c.loop-after.after c.loop-after.next (omega arith) ∙ c.loop-after.invariant ws h
