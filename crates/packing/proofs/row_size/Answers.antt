use mathlib.Core.Path.{ap, ◌∙◌}
use lib.ListN.{length}
use Rattle.row_tests.specs.Rows.{width_of}
use Rattle.packing.proofs.Puts.{row_plain}
use Rattle.packing.proofs.row_size.Goals as goal

pub committee_size-requires : goal.committee_size-requires
committee_size-requires c = c.requires ∙ ap width_of c.in-Committees.is

pub reshape_size-requires : goal.reshape_size-requires
reshape_size-requires c = c.requires ∙ ap width_of c.in-Reshapes.is

pub returns-in-Committees : goal.returns-in-Committees
returns-in-Committees c = rw c.in-Committees.is c.committee_size.ensures

pub returns-in-Reshapes : goal.returns-in-Reshapes
returns-in-Reshapes c = rw c.in-Reshapes.is c.reshape_size.ensures

pub returns-in_default : goal.returns-in_default
returns-in_default c = ap length (row_plain c.args.k c.args.t.now c.in_default.not-Committees c.in_default.not-Reshapes)
