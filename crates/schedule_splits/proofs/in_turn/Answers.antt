use mathlib.Core.Path.{refl, ◌∙◌}
use mathlib.Core.Bool.{true}
use native.Mathlib.Omega.{arith}
use Rattle.schedule_splits.proofs.Turns.{run_begins, run_on, run_stops, run_ends, step_is}
use Rattle.schedule_splits.proofs.in_turn.Goals as goal

pub loop-target-init : goal.loop-target-init
loop-target-init c = (omega arith, omega arith, omega (arith, c.start-at.ensures), refl, λ b h ok e. rw c.start-at.ensures (run_begins _ _ b e _ h ok))

pub try_schedule_split-requires : goal.try_schedule_split-requires
try_schedule_split-requires c = (c.loop-target.invariant.3 ∙ c.requires.0, omega (arith, c.loop-target.invariant.2))

pub overflow_add-handled : goal.overflow_add-handled
overflow_add-handled c = let e = c.in-Ok.is in
    let t = rw e at c.try_schedule_split.ensures.0 in
    omega (arith, t.0, c.loop-target.invariant.1, c.loop-target.invariant.0, c.requires.1)

pub returns-in-Err : goal.returns-in-Err
returns-in-Err c = λ b h ok e. let a = c.loop-target in step_is _ _ b e _ _ (run_stops _ _ b _ _ _ _ _ (a.invariant.4 b h ok e) c.loop-target-test.true _ c.try_schedule_split.ensures.1 _ c.in-Err.is)

pub loop-target-preserved : goal.loop-target-preserved
loop-target-preserved c = let a = c.loop-target in
    let e = c.in-Ok.is in
    let t = rw e at c.try_schedule_split.ensures.0 in (
      omega arith,
      omega (arith, t.0, a.invariant.1),
      t.1,
      c.try_schedule_split.auto.board ∙ a.invariant.3,
      λ b h ok q. run_on _ _ b _ _ _ _ _ (a.invariant.4 b h ok q) c.loop-target-test.true _ c.try_schedule_split.ensures.1 _ e,
    )

pub returns : goal.returns
returns c = λ b h ok e. let a = c.loop-target in step_is _ _ b e _ _ (rw c.done.ensures (run_ends _ _ b _ _ _ _ (a.invariant.4 b h ok e) c.loop-target-test.false))
