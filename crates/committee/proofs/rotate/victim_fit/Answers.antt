use mathlib.Core.Path.{refl, sym, ◌∙◌}
use borrow.Author.Tests.{not-true, not-false}
use Rattle.types.specs.Places.{is_seated_on}
use Rattle.committee.proofs.Rotates.{not_seated, seated_fit}
use Rattle.committee.proofs.rotate.victim_fit.Goals as goal

pub returns-then-not-is_seated_on : goal.returns-then-not-is_seated_on
returns-then-not-is_seated_on c = λ b h ok. not_seated _ _ b (sym (c.place_of.ensures b h ok (is_seated_on c.args.shard.0) refl) ∙ sym c.is_seated_on.ensures ∙ not-true _ c.if-not-is_seated_on.true-raw)

pub returns : goal.returns
returns c = λ b h ok. seated_fit _ _ b (sym (c.place_of.ensures b h ok (is_seated_on c.args.shard.0) refl) ∙ sym c.is_seated_on.ensures ∙ not-false _ c.if-not-is_seated_on.false-raw) _ (c.find_party.ensures.found b h) _ c.is_none.ensures
