use Prim.Native.Nat.{ℕ, ◌+◌, ◌-◌}
use mathlib.Core.Path.{refl, ap, ◌∙◌}
use mathlib.Core.List.{List}
use native.Mathlib.Omega.{arith}
use Rattle.shifts.specs.Moved.{moved_to}
use Rattle.shifts.proofs.Words.{up_none, up_many}
use Rattle.shifts.proofs.shift_up_eights.Goals as goal

pub loop-k-init : goal.loop-k-init
loop-k-init c = (omega (arith, c.requires.0), omega arith, c.requires.1, refl, up_none _ c.args.to c.args.by)

pub loop-k-preserved : goal.loop-k-preserved
loop-k-preserved c =
    let l = c.loop-k in
    let a = c.args in
    let m = c.move_eight in (
      omega arith,
      omega (arith, l.invariant.1),
      l.invariant.2,
      m.auto.t ∙ l.invariant.3,
      m.ensures ∙ ap (λ (u : List ℕ). moved_to u (l.k - 8) (l.k - 8 + a.by) 8) l.invariant.4 ∙ up_many a.t.now l.k a.to a.by 8 (omega arith) l.invariant.1 l.invariant.2,
    )

pub returns : goal.returns
returns c = let l = c.loop-k in (l.invariant.0, l.invariant.1, l.invariant.4)
