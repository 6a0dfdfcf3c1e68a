use Prim.Native.Nat.{◌<◌}
use mathlib.Core.Path.{◌≡◌, ap, ◌∙◌}
use native.Mathlib.Omega.{arith}
use lib.ListN.{length, get_or}
use Rattle.types.specs.Places.{is_pooled}
use Rattle.types.specs.declared.Machine.{Machine}
use Rattle.rules.specs.Lists.{bit_of}
use Rattle.rules.specs.Moves.{pool_of}
use Rattle.board.specs.Held.{no_machine}
use Rattle.pool.proofs.Pools.{bit_most, keys_none, keys_counted}
use Rattle.pool.proofs.pool_size.Goals as goal

pub loop-i-init : goal.loop-i-init
unfolding pool_of
loop-i-init c = (omega arith, c.rows-n.ensures.0, omega arith, λ b h. (c.rows-n.ensures.1 b h, omega arith))

pub overflow_add-k : goal.overflow_add-k
overflow_add-k c = omega (arith, c.from-k.ensures, bit_most c.is_pooled.result)

pub loop-i-preserved : goal.loop-i-preserved
loop-i-preserved c =
    let a = c.loop-i in (
      omega arith,
      a.invariant.1,
      omega (arith, c.from-k.ensures, bit_most c.is_pooled.result),
      λ b h.
          let t = a.invariant.3 b h in
          let l : a.i < length b.machines = omega (arith, t.0, c.loop-i-test.true) in
          let e : c.from-k.result ≡ bit_of (is_pooled (get_or b.machines a.i no_machine).val) =
          c.from-k.ensures ∙ ap bit_of c.is_pooled.ensures ∙ ap (λ (m : Machine). bit_of (is_pooled m.place)) (c.at-m.ensures b h l) in
          (t.0, omega (arith, t.1, e, keys_counted is_pooled b.machines a.i no_machine l)),
    )

pub returns : goal.returns
returns c =
    let a = c.loop-i in (
      omega arith,
      λ b h.
          let t = a.invariant.3 b h in
          omega (arith, t.1, ap length (keys_none is_pooled b.machines a.i (omega (arith, t.0, c.loop-i-test.false)))),
    )
