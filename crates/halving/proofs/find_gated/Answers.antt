use mathlib.Core.Path.{sym, ◌∙◌}
use borrow.Author.Tests.{not-true, not-false}
use Rattle.rules.proofs.KeptBoard.{target_within, good_of_lem, no_target}
use Rattle.drains.specs.Plans.{RowOf}
use Rattle.halving.proofs.Gates.{gate_none, gate_open, gate_shut}
use Rattle.halving.proofs.find_gated.Goals as goal

pub returns-then-not-is_target-clause-gate : goal.returns-then-not-is_target-clause-gate
returns-then-not-is_target-clause-gate c = λ b h ok. gate_none _ _ b (no_target (good_of_lem b ok) _ (sym c.is_target.ensures ∙ not-true _ c.if-not-is_target.true-raw))

pub passes_gate-requires : goal.passes_gate-requires
passes_gate-requires c = (c.requires.0, c.in_ok-i.ensures.room, target_within _ (sym c.is_target.ensures ∙ not-false _ c.if-not-is_target.false-raw), c.requires.1)

pub returns-then-passes_gate-clause-room : goal.returns-then-passes_gate-clause-room
returns-then-passes_gate-clause-room c = (c.in_ok-i.ensures.room, target_within _ (sym c.is_target.ensures ∙ not-false _ c.if-not-is_target.false-raw))

pub returns-then-passes_gate-clause-gate : goal.returns-then-passes_gate-clause-gate
returns-then-passes_gate-clause-gate c = λ b h ok.
    let f = c.in_ok-i.ensures.found b h ok in
    let r : RowOf _ _ b = record { inside = f.0; named = f.1 } in
    gate_open _ _ b _ r (sym (c.passes_gate.ensures b h ok r.inside) ∙ c.if-passes_gate.true)

pub returns-clause-gate : goal.returns-clause-gate
returns-clause-gate c = λ b h ok.
    let f = c.in_ok-i.ensures.found b h ok in
    let r : RowOf _ _ b = record { inside = f.0; named = f.1 } in
    gate_shut _ _ b _ r ok (sym (c.passes_gate.ensures b h ok r.inside) ∙ c.if-passes_gate.false)
