use mathlib.Core.Path.{refl, ◌∙◌}
use native.Mathlib.Omega.{arith}
use Rattle.lifecycle.proofs.Ages.{bit_small, age_turn, age_end}
use Rattle.lifecycle.proofs.auto_ready_timeout_held.Goals as goal

pub loop-i-init : goal.loop-i-init
loop-i-init c = (
  omega arith,
  c.rows_within-n.ensures.0,
  omega arith,
  refl,
  λ b h. record {
    epoch_is = c.epoch-epoch.ensures b h;
    wait_is = c.ready_wait-wait.ensures b h;
    rows = c.rows_within-n.ensures.1 (omega (arith, c.count.ensures b h, h.fits.machines)) ∙ c.count.ensures b h;
    held = h;
    counted = omega arith;
  },
)

pub age_at-requires : goal.age_at-requires
age_at-requires c = (c.loop-i.invariant.3 ∙ c.requires, omega arith)

pub overflow_add-k : goal.overflow_add-k
overflow_add-k c = omega (arith, bit_small c.age_at.result)

pub loop-i-preserved : goal.loop-i-preserved
loop-i-preserved c =
    let a = c.loop-i in (
      omega arith,
      a.invariant.1,
      omega (arith, bit_small c.age_at.result),
      c.age_at.auto.board ∙ a.invariant.3,
      λ b h. age_turn b _ _ _ _ _ _ (a.invariant.4 b h) (omega arith) _ _ _ c.from-k.ensures c.age_at.ensures,
    )

pub returns : goal.returns
returns c = λ b h ok. age_end b _ _ _ _ _ _ (c.loop-i.invariant.4 b h) ok (omega arith) _ c.done.ensures
