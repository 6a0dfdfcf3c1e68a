use Prim.Native.Nat.{◌<◌}
use mathlib.Core.Path.{refl, ◌∙◌}
use native.Mathlib.Omega.{arith}
use lib.ListN.{length}
use Rattle.resolving.proofs.Walks.{walk_begins, walk_turns, walk_ends}
use Rattle.resolving.proofs.close_marked.Goals as goal

pub loop-i-init : goal.loop-i-init
loop-i-init c = (omega arith, c.rows-n.ensures.0, omega arith, refl, λ b h ok m. (c.rows-n.ensures.1 b h, walk_begins b _ h ok))

pub turn_at-row-requires : goal.turn_at-row-requires
turn_at-row-requires c = (c.loop-i.invariant.3 ∙ c.requires, omega arith)

pub loop-i-preserved : goal.loop-i-preserved
loop-i-preserved c = let a = c.loop-i in (
  omega arith,
  a.invariant.1,
  omega (arith, c.turn_at-row.ensures.0),
  c.turn_at-row.auto.board ∙ a.invariant.3,
  λ b h ok m.
      let t = a.invariant.4 b h ok m in
      let l : a.i < length b.rotations = omega (arith, t.0) in
      (t.0, walk_turns b _ _ _ t.1 l _ (m a.i l) _ _ c.turn_at-row.ensures.1),
)

pub returns : goal.returns
returns c = λ b h ok m.
    let t = c.loop-i.invariant.4 b h ok m in
    let e = walk_ends b _ _ _ t.1 (omega (arith, t.0)) in
    (omega (arith, e.0), e.1)
