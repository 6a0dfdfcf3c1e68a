use Prim.Native.Nat.{ℕ, ◌+◌, ◌-◌}
use mathlib.Core.Path.{◌≡◌, refl, ap, ◌∙◌}
use native.Mathlib.Omega.{arith}
use Rattle.rules.specs.Board.{on_committees}
use Rattle.board.proofs.Fitting.{held_as}
use Rattle.folding.specs.Freed.{freed}
use Rattle.folding.proofs.Free.{none_moved, moved_lower}
use Rattle.folding.proofs.free_lower.Goals as goal

pub loop-i-init : goal.loop-i-init
loop-i-init c = (c.requires.1, omega arith, refl, λ b h l. none_moved b c.args.j l _ h)

pub loop-i-preserved : goal.loop-i-preserved
loop-i-preserved c =
    let a = c.loop-i in (
      omega arith,
      omega (arith, a.invariant.1),
      c.copy_row.auto.ws ∙ a.invariant.2,
      λ b h l. moved_lower b c.args.j l _ _ a.i (a.invariant.3 b h l) (a.i - 1 + 1) (omega arith) (omega arith) a.invariant.1 c.copy_row.ensures,
    )

pub returns : goal.returns
returns c =
    λ b h l.
    let a = c.loop-i in
    let e : a.i ≡ c.args.k = omega (arith, a.invariant.0) in
    held_as _ _ _ (ap (λ (i : ℕ). on_committees (freed c.args.j i) b) e) (a.invariant.3 b h l)
