use mathlib.Core.Path.{refl}
use borrow.Author.Tests.{not-false}
use Rattle.steps.proofs.Public.{held_wide}
use Rattle.roster.proofs.Exports.{export_refuses, export_answers}
use Rattle.roster.proofs.answered.Goals as goal

pub returns-then-not-well_formed : goal.returns-then-not-well_formed
returns-then-not-well_formed g c = λ made m. export_refuses c.well_formed-2.ensures c.if-not-well_formed.true-raw c.refusal.ensures c.tell.ensures

pub step-told-requires : goal.step-told-requires
step-told-requires g c = c.requires (held_wide _ (c.well_formed-2.ensures.yes (not-false _ c.if-not-well_formed.false-raw))) _ refl

pub returns : goal.returns
returns g c = λ made m. export_answers c.well_formed-2.ensures c.if-not-well_formed.false-raw (m _ _ (record { shown = _; shows = refl; left = _; met = c.step-told.ensures; leaves = refl })) c.tell-2.ensures
