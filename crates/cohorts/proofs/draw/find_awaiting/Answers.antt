use mathlib.Core.Path.{sym, ◌∙◌}
use Rattle.rules.specs.Reshapes.{awaits_cohort}
use Rattle.rows.proofs.Asked.{holds_none}
use Rattle.cohorts.proofs.Draws.{asks}
use Rattle.cohorts.proofs.draw.find_awaiting.Goals as goal

pub returns-in_err-i-clause-found : goal.returns-in_err-i-clause-found
returns-in_err-i-clause-found c = λ b h ok. rw c.from_residual.ensures (holds_none _ awaits_cohort b.reshapes (c.in_err-i.ensures.found b h ok))

pub returns-then-awaits_cohort-clause-found : goal.returns-then-awaits_cohort-clause-found
returns-then-awaits_cohort-clause-found c = λ b h ok.
    let f = c.in_ok-i.ensures.found b h ok in
    record { inside = f.0; named = f.1; awaits = sym (c.if-awaits_cohort.ensures b h f.0) }

pub returns-else-awaits_cohort-clause-found : goal.returns-else-awaits_cohort-clause-found
returns-else-awaits_cohort-clause-found c = λ b h ok.
    let f = c.in_ok-i.ensures.found b h ok in
    asks b ok _ _ f.0 f.1 ∙ sym (c.if-awaits_cohort.ensures b h f.0)
