use Prim.Native.Nat.{◌<◌}
use mathlib.Core.Path.{ap, sym, ◌∙◌}
use mathlib.Core.Bool.{not}
use native.Mathlib.Omega.{arith}
use lib.ListN.{length}
use Rattle.rules.specs.Moves.{is_on}
use Rattle.board.specs.Held.{no_rotation}
use Rattle.occupancy.proofs.Walks.{every_ended, every_passed, every_failed}
use Rattle.carved.proofs.Carved.{none_is}
use Rattle.carved.proofs.is_at_rest.Goals as goal

pub loop-i-init : goal.loop-i-init
loop-i-init c = (omega arith, c.rows-n.ensures.0, λ b h. (c.rows-n.ensures.1 b h, none_is _ b.rotations))

pub returns-then-eq : goal.returns-then-eq
returns-then-eq c = λ b h.
    let a = c.loop-i in
    let t = a.invariant.2 b h in
    let l : a.i < length b.rotations = omega (arith, t.0, c.loop-i-test.true) in
    let e = c.eq.ensures ∙ ap (is_on c.args.shard.0) (c.at-r.ensures b h l) in
    every_failed (λ r. not (is_on c.args.shard.0 r)) _ b.rotations a.i t.1 no_rotation l (ap not (sym e ∙ c.if-eq.true))

pub loop-i-preserved : goal.loop-i-preserved
loop-i-preserved c = (
  omega arith,
  c.loop-i.invariant.1,
  λ b h.
      let a = c.loop-i in
      let t = a.invariant.2 b h in
      let l : a.i < length b.rotations = omega (arith, t.0, c.loop-i-test.true) in
      let e = c.eq.ensures ∙ ap (is_on c.args.shard.0) (c.at-r.ensures b h l) in
      (t.0, every_passed (λ r. not (is_on c.args.shard.0 r)) _ b.rotations a.i t.1 no_rotation l (ap not (sym e ∙ c.if-eq.false))),
)

pub returns : goal.returns
returns c = λ b h.
    let t = c.loop-i.invariant.2 b h in
    every_ended (λ r. not (is_on c.args.shard.0 r)) _ b.rotations c.loop-i.i t.1 (omega (arith, t.0, c.loop-i-test.false))
