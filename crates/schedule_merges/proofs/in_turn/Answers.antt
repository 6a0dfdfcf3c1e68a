use mathlib.Core.Path.{refl, ◌∙◌}
use mathlib.Core.Bool.{true}
use native.Mathlib.Omega.{arith}
use Rattle.schedule_merges.proofs.Merges.{run_begins, run_on, run_stops, run_ends}
use Rattle.schedule_merges.proofs.in_turn.Goals as goal

pub loop-target-init : goal.loop-target-init
loop-target-init c = (omega arith, omega arith, refl, λ b h ok. run_begins _ b _ h ok)

pub try_schedule_merge-requires : goal.try_schedule_merge-requires
try_schedule_merge-requires c = c.loop-target.invariant.2 ∙ c.requires.0

pub overflow_add-handled : goal.overflow_add-handled
overflow_add-handled c = let e = c.in-Ok.is in
    let t = rw e at c.try_schedule_merge.ensures.0 in
    omega (arith, t.0, c.loop-target.invariant.1, c.loop-target.invariant.0, c.requires.1)

pub returns-in-Err : goal.returns-in-Err
returns-in-Err c = λ b h ok. let a = c.loop-target in run_stops _ b _ _ _ _ (a.invariant.3 b h ok) c.loop-target-test.true _ c.try_schedule_merge.ensures.1 _ c.in-Err.is

pub loop-target-preserved : goal.loop-target-preserved
loop-target-preserved c = let a = c.loop-target in
    let e = c.in-Ok.is in
    let t = rw e at c.try_schedule_merge.ensures.0 in (
      omega arith,
      omega (arith, t.0, a.invariant.1),
      c.try_schedule_merge.auto.board ∙ a.invariant.2,
      λ b h ok. run_on _ b _ _ _ _ (a.invariant.3 b h ok) c.loop-target-test.true _ c.try_schedule_merge.ensures.1 _ e,
    )

pub returns : goal.returns
returns c = λ b h ok. let a = c.loop-target in rw c.done.ensures (run_ends _ b _ _ _ (a.invariant.3 b h ok) c.loop-target-test.false)
