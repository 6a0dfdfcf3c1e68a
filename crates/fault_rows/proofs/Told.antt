-- The walk over the clauses tells something exactly where the seat check fails.
use mathlib.Core.Path.{◌≡◌}
use mathlib.Core.Bool.{true}
use native.Mathlib.Omega.{arith}
use Rattle.rules.specs.Board.{Board}
use Rattle.rules.specs.WellFormed.{well_formed}
use Rattle.rules.specs.SeatCheck.{seat_check}
use Rattle.faults.specs.Clean.{Exactly, NoFault}
use Rattle.faults.proofs.Cleared.{no_fault}
use Rattle.fault_rows.specs.Clauses.{rows_outside, rows_inside, first_of, next_fault, NothingTold}
use Rattle.fault_rows.specs.declared.Clause.TheVariants.{StrayMember, Unlisted, AbsentSeat, Unseated, SharedParty, SplitThere, Unhalved, Overlapping, Unfounded}

module _ (b : Board) where
  untold : NoFault b → NothingTold b
  unfolding rows_outside rows_inside first_of next_fault
  untold n StrayMember i h = n.members i h
  untold n Unlisted i h = n.machines
  untold n AbsentSeat i h = n.cohorts i h
  untold n Unseated i h = n.parties.seated
  untold n SharedParty i h = n.parties.apart i h
  untold n SplitThere i h = n.scheduled.still i h
  untold n Unhalved i h = n.scheduled.halved i h
  untold n Overlapping i h = n.families i h
  untold n Unfounded i h = n.founded

  clean : NothingTold b → NoFault b
  unfolding rows_outside rows_inside first_of next_fault
  clean t = record {
    members = t StrayMember;
    machines = t Unlisted 0 (omega arith);
    cohorts = t AbsentSeat;
    parties = record { seated = t Unseated 0 (omega arith); apart = t SharedParty };
    scheduled = record { still = t SplitThere; halved = t Unhalved };
    families = t Overlapping;
    founded = t Unfounded 0 (omega arith);
  }

  pub told_where_it_fails : well_formed b ≡ true → Exactly (seat_check b) (NothingTold b)
  told_where_it_fails ok = let e = no_fault b ok in record { clean = λ h. untold (e.clean h); holds = λ t. e.holds (clean t) }
