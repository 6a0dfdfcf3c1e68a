use mathlib.Core.Path.{ap, ◌∙◌}
use Rattle.row_tests.specs.Rows.{width_of}
use Rattle.row_tests.proofs.row_ok.Goals as goal

pub machine_ok-requires : goal.machine_ok-requires
machine_ok-requires c = c.requires ∙ ap width_of c.in-Machines.is

pub committee_ok-requires : goal.committee_ok-requires
committee_ok-requires c = c.requires ∙ ap width_of c.in-Committees.is

pub boundary_ok-requires : goal.boundary_ok-requires
boundary_ok-requires c = c.requires ∙ ap width_of c.in-Boundaries.is

pub rotation_ok-requires : goal.rotation_ok-requires
rotation_ok-requires c = c.requires ∙ ap width_of c.in-Rotations.is

pub reshape_ok-requires : goal.reshape_ok-requires
reshape_ok-requires c = c.requires ∙ ap width_of c.in-Reshapes.is

pub returns-in-Machines : goal.returns-in-Machines
returns-in-Machines c = cc

pub returns-in-Committees : goal.returns-in-Committees
returns-in-Committees c = cc

pub returns-in-Boundaries : goal.returns-in-Boundaries
returns-in-Boundaries c = cc

pub returns-in-Rotations : goal.returns-in-Rotations
returns-in-Rotations c = cc

pub returns-in-Reshapes : goal.returns-in-Reshapes
returns-in-Reshapes c = cc
