use mathlib.Core.Path.{◌∙◌}
use Rattle.board.proofs.Keyed.{bounds_rise}
use Rattle.rows.proofs.Asked.{finds_stands}
use Rattle.families.proofs.has_bound.Goals as goal

pub returns : goal.returns
returns c = λ b h ok. c.is_some.ensures ∙ finds_stands _ _ b.bounds _ (bounds_rise b ok) (c.find_bound.ensures.found b h ok)
