use Prim.Native.Nat.{◌<◌}
use mathlib.Core.Path.{◌≡◌, ap, ◌∙◌}
use native.Mathlib.Omega.{arith}
use lib.ListN.{length, get_or}
use Rattle.rules.specs.Lists.{bit_of}
use Rattle.board.specs.Held.{no_rotation}
use Rattle.pool.proofs.Pools.{bit_most}
use Rattle.committee.specs.Counted.{counts}
use Rattle.committee.proofs.Asked.{count_next, count_none}
use Rattle.committee.proofs.reads.rotations_on.Goals as goal

pub loop-i-init : goal.loop-i-init
loop-i-init c = (omega arith, c.rows-n.ensures.0, omega arith, λ b h ok. (c.rows-n.ensures.1 b h, omega arith))

pub overflow_add-k : goal.overflow_add-k
overflow_add-k c = omega (arith, c.from-k.ensures, bit_most c.counts_at.result)

pub loop-i-preserved : goal.loop-i-preserved
loop-i-preserved c = let a = c.loop-i in
    let p = c.args in (
      omega arith,
      a.invariant.1,
      omega (arith, c.from-k.ensures, bit_most c.counts_at.result),
      λ b h ok.
          let t = a.invariant.3 b h ok in
          let l : a.i < length b.rotations = omega (arith, t.0, c.loop-i-test.true) in
          let e : c.from-k.result ≡ bit_of (counts p.which p.shard.0 b (get_or b.rotations a.i no_rotation)) = c.from-k.ensures ∙ ap bit_of (c.counts_at.ensures b h ok l) in
          (t.0, omega (arith, t.1, e, count_next (counts p.which p.shard.0 b) b.rotations a.i no_rotation l)),
    )

pub returns : goal.returns
returns c = let a = c.loop-i in
    let p = c.args in (
      omega arith,
      λ b h ok.
          let t = a.invariant.3 b h ok in
          omega (arith, t.1, count_none (counts p.which p.shard.0 b) b.rotations a.i (omega (arith, t.0, c.loop-i-test.false))),
    )
