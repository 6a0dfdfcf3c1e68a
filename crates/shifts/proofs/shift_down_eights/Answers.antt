use Prim.Native.Nat.{ℕ, ◌-◌}
use mathlib.Core.Path.{refl, ap, ◌∙◌}
use mathlib.Core.List.{List}
use native.Mathlib.Omega.{arith}
use Rattle.shifts.specs.Moved.{moved_to}
use Rattle.shifts.proofs.Words.{down_none, down_many}
use Rattle.shifts.proofs.shift_down_eights.Goals as goal

pub loop-k-init : goal.loop-k-init
loop-k-init c = (omega arith, omega (arith, c.requires.1), c.requires.0, c.requires.2, refl, down_none _ c.args.from c.args.by)

pub loop-k-preserved : goal.loop-k-preserved
loop-k-preserved c =
    let l = c.loop-k in
    let a = c.args in
    let m = c.move_eight in (
      omega (arith, l.invariant.0),
      omega arith,
      l.invariant.2,
      l.invariant.3,
      m.auto.t ∙ l.invariant.4,
      m.ensures ∙ ap (λ (u : List ℕ). moved_to u l.k (l.k - a.by) 8) l.invariant.5 ∙ down_many a.t.now a.from l.k a.by 8 l.invariant.2 l.invariant.0 (omega (arith, l.invariant.3)),
    )

pub returns : goal.returns
returns c = let l = c.loop-k in (l.invariant.0, l.invariant.1, l.invariant.5)
