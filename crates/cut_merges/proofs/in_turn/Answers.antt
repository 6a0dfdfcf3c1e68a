use mathlib.Core.Path.{refl, ◌∙◌}
use native.Mathlib.Omega.{arith}
use Rattle.rules.specs.Cut.{cut_merge}
use Rattle.rules.proofs.Draws.{cut_merge_reads as reads_none}
use Rattle.batches.proofs.Drawless.{set_out, all_done, one_done, one_refused}
use Rattle.cut_merges.proofs.Cuts.{turn_finishes}
use Rattle.cut_merges.proofs.in_turn.Goals as goal

pub loop-target-init : goal.loop-target-init
loop-target-init c = (omega arith, omega arith, refl, λ b h ok. set_out cut_merge reads_none turn_finishes _ b _ h ok)

pub cut_merge-requires : goal.cut_merge-requires
cut_merge-requires c = c.loop-target.invariant.2 ∙ c.requires.0

pub overflow_add-handled : goal.overflow_add-handled
overflow_add-handled c = let e = c.in-Ok.is in
    let t = rw e at c.cut_merge.ensures.0 in
    omega (arith, t.0, c.loop-target.invariant.1, c.loop-target.invariant.0, c.requires.1)

pub returns-in-Err : goal.returns-in-Err
returns-in-Err c = λ b h ok. let a = c.loop-target in one_refused cut_merge reads_none turn_finishes _ b _ _ _ _ (a.invariant.3 b h ok) c.loop-target-test.true _ c.cut_merge.ensures.1 _ c.in-Err.is

pub loop-target-preserved : goal.loop-target-preserved
loop-target-preserved c = let a = c.loop-target in
    let e = c.in-Ok.is in
    let t = rw e at c.cut_merge.ensures.0 in (
      omega arith,
      omega (arith, t.0, a.invariant.1),
      c.cut_merge.auto.board ∙ a.invariant.2,
      λ b h ok. one_done cut_merge reads_none turn_finishes _ b _ _ _ _ (a.invariant.3 b h ok) c.loop-target-test.true _ c.cut_merge.ensures.1 _ e,
    )

pub returns : goal.returns
returns c = λ b h ok. let a = c.loop-target in rw c.done.ensures (all_done cut_merge reads_none turn_finishes _ b _ _ _ (a.invariant.3 b h ok) c.loop-target-test.false)
