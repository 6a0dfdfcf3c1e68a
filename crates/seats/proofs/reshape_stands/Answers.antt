use mathlib.Core.Path.{ap, sym, ◌∙◌}
use mathlib.Core.Bool.{false≢true}
use borrow.Author.Tests.{not-true, not-false}
use Rattle.rules.specs.WellFormed.{is_target}
use Rattle.rules.proofs.KeptBoard.{target_within}
use Rattle.seats.proofs.Checked.{is_a_target, stands_is}
use Rattle.seats.proofs.reshape_stands.Goals as goal

pub returns-then-not-is_target : goal.returns-then-not-is_target
returns-then-not-is_target c = λ b h ok l. absurd (false≢true (sym (not-true _ c.if-not-is_target.true-raw) ∙ c.is_target.ensures ∙ ap is_target (c.target_at-target.ensures b h l) ∙ is_a_target b ok _ l))

pub committees_fit-requires : goal.committees_fit-requires
committees_fit-requires c = (c.requires.0, target_within _ (sym c.is_target.ensures ∙ not-false _ c.if-not-is_target.false-raw))

pub bounds_stand-requires : goal.bounds_stand-requires
bounds_stand-requires c = (c.requires.0, target_within _ (sym c.is_target.ensures ∙ not-false _ c.if-not-is_target.false-raw))

pub returns : goal.returns
returns c = λ b h ok l. stands_is b _ _ _ (c.target_at-target.ensures b h l) (c.is_merge-merging.ensures b h l) _ _ (c.committees_fit.ensures b h ok) (c.bounds_stand.ensures b h ok)
