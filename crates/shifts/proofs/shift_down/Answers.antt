use Prim.Native.Nat.{ℕ}
use mathlib.Core.Path.{◌≡◌, refl, ap, ◌∙◌}
use mathlib.Core.List.{List}
use native.Mathlib.Omega.{arith}
use lib.ListN.{length-set}
use Rattle.shifts.specs.Moved.{moved_down}
use Rattle.shifts.proofs.Words.{down_none, down_turn, down_joins}
use Rattle.shifts.proofs.shift_down.Goals as goal

pub loop-k-init : goal.loop-k-init
loop-k-init c =
    let s = c.shift_down_eights-k in
    (omega arith, s.ensures.1, omega (arith, s.ensures.0, c.requires.0), omega (arith, s.auto.t, c.requires.2), refl, down_none _ s.result c.args.by)

pub loop-k-preserved : goal.loop-k-preserved
loop-k-preserved c =
    let l = c.loop-k in
    let by = c.args.by in (
      omega (arith, l.invariant.0),
      omega arith,
      l.invariant.2,
      l.invariant.3,
      simp length-set l.invariant.4,
      down_turn _ l.t _ l.k by l.invariant.5 l.invariant.2 l.invariant.0 (omega (arith, l.invariant.3)),
    )

pub returns : goal.returns
returns c =
    let l = c.loop-k in
    let s = c.shift_down_eights-k in
    let e : l.k ≡ c.args.to = omega (arith, l.invariant.1) in
    l.invariant.5
    ∙ ap (λ (x : ℕ). moved_down s.new.t s.result x c.args.by) e
    ∙ ap (λ (x : List ℕ). moved_down x s.result c.args.to c.args.by) s.ensures.2
    ∙ down_joins c.args.t.now c.args.from s.result c.args.to c.args.by c.requires.0 s.ensures.0 s.ensures.1 c.requires.2
