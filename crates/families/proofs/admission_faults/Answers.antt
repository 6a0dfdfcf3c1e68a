use mathlib.Core.Path.{sym, ◌∙◌}
use borrow.Author.Tests.{not-true, not-false}
use Rattle.rules.proofs.KeptBoard.{target_within}
use Rattle.families.proofs.Refusing.{no_target, family_taken, committees_unfit, no_bound, granted}
use Rattle.families.proofs.admission_faults.Goals as goal

pub returns-then-not-is_target-clause-tells : goal.returns-then-not-is_target-clause-tells
returns-then-not-is_target-clause-tells c = λ b h ok. no_target _ _ b ok (sym c.is_target.ensures ∙ not-true _ c.if-not-is_target.true-raw)

pub returns-then-not-family_free-clause-tells : goal.returns-then-not-family_free-clause-tells
returns-then-not-family_free-clause-tells c = λ b h ok.
    let y = sym c.is_target.ensures ∙ not-false _ c.if-not-is_target.false-raw in
    family_taken _ _ b ok y (sym (c.family_free.ensures b h) ∙ not-true _ c.if-not-family_free.true-raw)

pub committees_fit-requires : goal.committees_fit-requires
committees_fit-requires c = (c.requires, target_within _ (sym c.is_target.ensures ∙ not-false _ c.if-not-is_target.false-raw))

pub returns-then-not-committees_fit-clause-tells : goal.returns-then-not-committees_fit-clause-tells
returns-then-not-committees_fit-clause-tells c = λ b h ok.
    let y = sym c.is_target.ensures ∙ not-false _ c.if-not-is_target.false-raw in
    let f = sym (c.family_free.ensures b h) ∙ not-false _ c.if-not-family_free.false-raw in
    committees_unfit _ _ b ok y f (sym (c.committees_fit.ensures b h ok) ∙ not-true _ c.if-not-committees_fit.true-raw)

pub bounds_stand-requires : goal.bounds_stand-requires
bounds_stand-requires c = (c.requires, target_within _ (sym c.is_target.ensures ∙ not-false _ c.if-not-is_target.false-raw))

pub returns-then-not-bounds_stand-clause-tells : goal.returns-then-not-bounds_stand-clause-tells
returns-then-not-bounds_stand-clause-tells c = λ b h ok.
    let y = sym c.is_target.ensures ∙ not-false _ c.if-not-is_target.false-raw in
    let f = sym (c.family_free.ensures b h) ∙ not-false _ c.if-not-family_free.false-raw in
    let g = sym (c.committees_fit.ensures b h ok) ∙ not-false _ c.if-not-committees_fit.false-raw in
    no_bound _ _ b ok y f g (sym (c.bounds_stand.ensures b h ok) ∙ not-true _ c.if-not-bounds_stand.true-raw)

pub returns-clause-within : goal.returns-clause-within
returns-clause-within c = target_within _ (sym c.is_target.ensures ∙ not-false _ c.if-not-is_target.false-raw)

pub returns-clause-tells : goal.returns-clause-tells
returns-clause-tells c = λ b h ok.
    let y = sym c.is_target.ensures ∙ not-false _ c.if-not-is_target.false-raw in
    let f = sym (c.family_free.ensures b h) ∙ not-false _ c.if-not-family_free.false-raw in
    let g = sym (c.committees_fit.ensures b h ok) ∙ not-false _ c.if-not-committees_fit.false-raw in
    granted _ _ b ok y f g (sym (c.bounds_stand.ensures b h ok) ∙ not-false _ c.if-not-bounds_stand.false-raw)
