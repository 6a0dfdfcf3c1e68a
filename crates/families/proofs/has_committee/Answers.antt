use mathlib.Core.Path.{◌∙◌}
use Rattle.board.proofs.Keyed.{committees_rise}
use Rattle.rows.proofs.Asked.{finds_stands}
use Rattle.families.proofs.has_committee.Goals as goal

pub returns : goal.returns
returns c = λ b h ok. c.is_some.ensures ∙ finds_stands _ _ b.committees _ (committees_rise b ok) (c.find_committee.ensures.found b h ok)
