use mathlib.Core.Path.{refl, ap, ◌∙◌}
use mathlib.Core.Bool.{true}
use Rattle.rules.specs.Reshapes.{half_up}
use Rattle.cohorts.proofs.Watches.{none_watched, one_watched, all_watched}
use Rattle.cohorts.proofs.watch.watch_all.Goals as goal

pub loop-k-init : goal.loop-k-init
loop-k-init c = (
  refl,
  λ b h ok l e empty good may. (ap half_up (c.cohort_size-size.ensures.1 b h ok), none_watched _ _ _ b _ h ok l e empty good may),
)

pub loop-k-preserved : goal.loop-k-preserved
loop-k-preserved c = let a = c.loop-k in (
  c.watch.auto.board ∙ a.invariant.0,
  λ b h ok l e empty good may.
      let t = a.invariant.1 b h ok l e empty good may in
      (t.0, one_watched _ _ _ b _ _ t.1 c.loop-k-test.true _ refl _ (c.child_of-child.ensures ∙ rw t.0) _ c.watch.ensures),
)

pub returns : goal.returns
returns c = λ b h ok l e empty good may. all_watched _ _ _ b _ _ (c.loop-k.invariant.1 b h ok l e empty good may).1 c.loop-k-test.false
