use mathlib.Core.Path.{sym, ◌∙◌}
use native.Mathlib.Omega.{arith}
use Rattle.drains.specs.declared.Plan.TheVariants.{Stamp, Wait, Schedule, Unbounded}
use Rattle.schedule_splits.proofs.Turns.{row_kept, abort_well, schedule_kept, pass_shut, pass_open}
use Rattle.schedule_splits.proofs.schedule_halves.Goals as goal

pub returns-in_default : goal.returns-in_default
returns-in_default c = (
  (omega arith, omega arith),
  λ b h ok stay draws m.
      record { board = _; read = m; turn = pass_shut _ b _ stay _ (c.in_default.ensures.gate b h ok); holds = c.abort_rotations.ensures b h ok },
)

pub plan_at-requires : goal.plan_at-requires
plan_at-requires c = (c.requires.0, c.in-Some.ensures.room.0, c.in-Some.ensures.room.1)

pub schedule-requires : goal.schedule-requires
schedule-requires c = (c.abort_rotations-in-Schedule.auto.board ∙ c.requires.0, c.in-Some.ensures.room.0, c.in-Some.ensures.room.1, c.requires.1)

pub returns-in-Stamp : goal.returns-in-Stamp
returns-in-Stamp c = (
  (omega arith, omega arith),
  λ b h ok stay draws m.
      let g = c.in-Some.ensures.gate b h ok in
      let r = g.row in
      record {
        board = _;
        read = m;
        turn = pass_open _ b _ stay _ ok _ r g.opens Stamp (sym c.in-Stamp.is ∙ c.plan_at.ensures b h ok r.inside);
        holds = c.stamp.ensures _ (c.abort_rotations-in-Stamp.ensures b h ok) (abort_well _ b ok) _ (row_kept _ b _ r);
      },
)

pub returns-in-Wait : goal.returns-in-Wait
returns-in-Wait c = (
  (omega arith, omega arith),
  λ b h ok stay draws m.
      let g = c.in-Some.ensures.gate b h ok in
      let r = g.row in
      record {
        board = _;
        read = m;
        turn = pass_open _ b _ stay _ ok _ r g.opens Wait (sym c.in-Wait.is ∙ c.plan_at.ensures b h ok r.inside);
        holds = c.abort_rotations-in-Wait.ensures b h ok;
      },
)

pub returns-in-Schedule : goal.returns-in-Schedule
returns-in-Schedule c = (
  (omega arith, omega arith),
  λ b h ok stay draws m.
      let g = c.in-Some.ensures.gate b h ok in
      let r = g.row in
      record {
        board = _;
        read = m;
        turn = pass_open _ b _ stay _ ok _ r g.opens Schedule (sym c.in-Schedule.is ∙ c.plan_at.ensures b h ok r.inside);
        holds = schedule_kept _ b _ _ _ _ (c.schedule.ensures _ (c.abort_rotations-in-Schedule.ensures b h ok) (abort_well _ b ok) (row_kept _ b _ r));
      },
)

pub returns-in-Unbounded : goal.returns-in-Unbounded
returns-in-Unbounded c = (
  tt,
  λ b h ok stay draws m.
      let g = c.in-Some.ensures.gate b h ok in
      let r = g.row in
      (pass_open _ b _ stay _ ok _ r g.opens Unbounded (sym c.in-Unbounded.is ∙ c.plan_at.ensures b h ok r.inside), h),
)
