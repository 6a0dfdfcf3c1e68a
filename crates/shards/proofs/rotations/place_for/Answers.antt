use Prim.Native.Nat.{◌<◌}
use mathlib.Core.Path.{sym, ◌∙◌}
use native.Mathlib.Omega.{arith}
use lib.ListN.{length}
use Rattle.rules.specs.WellFormed.{rotation_before}
use Rattle.board.specs.Held.{no_rotation}
use Rattle.tables.proofs.Keys.{search_found, search_passed, search_ended}
use Rattle.shards.proofs.rotations.place_for.Goals as goal

pub loop-i-init : goal.loop-i-init
loop-i-init c = (omega arith, c.rows-n.ensures.0, λ b p h e f. (c.rows-n.ensures.1 b h, omega arith))

pub returns-then-is_before : goal.returns-then-is_before
returns-then-is_before c =
    let a = c.loop-i in (
      omega arith,
      λ b p h e f.
          let t = a.invariant.2 b p h e f in
          let l : a.i < length b.rotations = omega (arith, t.0, c.loop-i-test.true) in
          search_found (rotation_before p) b.rotations a.i _ t.1 no_rotation l
          (rw (← c.at.ensures b h l) (sym (c.is_before.ensures p e f) ∙ c.if-is_before.true)),
    )

pub loop-i-preserved : goal.loop-i-preserved
loop-i-preserved c =
    let a = c.loop-i in (
      omega arith,
      a.invariant.1,
      λ b p h e f.
          let t = a.invariant.2 b p h e f in
          let l : a.i < length b.rotations = omega (arith, t.0, c.loop-i-test.true) in (
            t.0,
            search_passed (rotation_before p) b.rotations a.i _ t.1 no_rotation l
                (rw (← c.at.ensures b h l) (sym (c.is_before.ensures p e f) ∙ c.if-is_before.false)),
          ),
    )

pub returns : goal.returns
returns c =
    let a = c.loop-i in (
      a.invariant.1,
      λ b p h e f.
          let t = a.invariant.2 b p h e f in
          let q = search_ended (rotation_before p) b.rotations a.i _ t.1 (omega (arith, t.0, c.loop-i-test.false)) in
          omega arith,
    )
