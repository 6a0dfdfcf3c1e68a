use mathlib.Core.Path.{◌∙◌}
use native.Mathlib.Omega.{arith}
use Rattle.board.specs.Held.{no_committee}
use Rattle.board.proofs.Keyed.{committees_rise}
use Rattle.rows.proofs.Asked.{finds_stands}
use Rattle.recasting.proofs.Sizes.{bit_most, lack_told}
use Rattle.recasting.proofs.lacks_committee.Goals as goal

pub returns : goal.returns
returns c = (
  omega (arith, c.from.ensures, bit_most c.is_none.result),
  λ b h ok. c.from.ensures ∙ lack_told _ _ _ _ c.is_none.ensures (finds_stands _ no_committee _ _ (committees_rise b ok) (c.find_committee.ensures.found b h ok)),
)
