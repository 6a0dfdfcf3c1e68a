use Prim.Native.Nat.{ℕ}
use mathlib.Core.Path.{◌≡◌, refl, ap, ◌∙◌}
use native.Mathlib.Omega.{arith}
use Rattle.rules.specs.Board.{on_committees}
use Rattle.board.proofs.Fitting.{held_as}
use Rattle.folding.specs.Freed.{freed}
use Rattle.folding.proofs.Free.{none_moved, moved_higher}
use Rattle.folding.proofs.free_higher.Goals as goal

pub loop-i-init : goal.loop-i-init
loop-i-init c = (omega arith, c.requires.1, refl, λ b h l. none_moved b c.args.j (omega (arith, l, c.requires.1)) _ h)

pub loop-i-preserved : goal.loop-i-preserved
loop-i-preserved c =
    let a = c.loop-i in (
      omega (arith, a.invariant.0),
      omega arith,
      c.copy_row.auto.ws ∙ a.invariant.2,
      λ b h l. moved_higher b c.args.j (omega (arith, l, c.requires.1)) _ _ a.i (a.invariant.3 b h l) a.invariant.0 (omega (arith, l, c.loop-i-test.true)) c.copy_row.ensures,
    )

pub returns : goal.returns
returns c =
    λ b h l.
    let a = c.loop-i in
    let e : a.i ≡ c.args.k = omega (arith, a.invariant.1) in
    held_as _ _ _ (ap (λ (i : ℕ). on_committees (freed c.args.j i) b) e) (a.invariant.3 b h l)
