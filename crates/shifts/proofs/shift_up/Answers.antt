use Prim.Native.Nat.{ℕ}
use mathlib.Core.Path.{◌≡◌, refl, ap, ◌∙◌}
use mathlib.Core.List.{List}
use native.Mathlib.Omega.{arith}
use lib.ListN.{length-set}
use Rattle.shifts.specs.Moved.{moved_up}
use Rattle.shifts.proofs.Words.{up_none, up_turn, up_joins}
use Rattle.shifts.proofs.shift_up.Goals as goal

pub loop-k-init : goal.loop-k-init
loop-k-init c =
    let s = c.shift_up_eights-k in
    (s.ensures.0, omega arith, omega (arith, s.ensures.1, s.auto.t, c.requires.1), refl, up_none _ s.result c.args.by)

pub loop-k-preserved : goal.loop-k-preserved
loop-k-preserved c =
    let l = c.loop-k in
    let by = c.args.by in (
      omega arith,
      omega (arith, l.invariant.1),
      l.invariant.2,
      simp length-set l.invariant.3,
      up_turn _ l.t l.k _ by l.invariant.4 (omega arith) l.invariant.1 l.invariant.2,
    )

pub returns : goal.returns
returns c =
    let l = c.loop-k in
    let s = c.shift_up_eights-k in
    let e : l.k ≡ c.args.from = omega (arith, l.invariant.0) in
    l.invariant.4
    ∙ ap (λ (x : ℕ). moved_up s.new.t x s.result c.args.by) e
    ∙ ap (λ (x : List ℕ). moved_up x c.args.from s.result c.args.by) s.ensures.2
    ∙ up_joins c.args.t.now c.args.from s.result c.args.to c.args.by s.ensures.0 s.ensures.1 c.requires.1
