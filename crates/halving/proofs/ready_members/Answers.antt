use mathlib.Core.Path.{◌≡◌, refl, ap, ◌∙◌}
use mathlib.Core.Bool.{true}
use native.Mathlib.Omega.{arith}
use lib.ListN.{get_or}
use Rattle.types.specs.Places.{is_ready}
use Rattle.rules.specs.Lists.{bit_of}
use Rattle.rules.specs.Moves.{says}
use Rattle.pool.proofs.Pools.{bit_most}
use Rattle.committee.proofs.Asked.{count_next, count_none}
use Rattle.halving.proofs.ready_members.Goals as goal

pub loop-id-init : goal.loop-id-init
loop-id-init c = (omega arith, omega arith, λ b h ok. omega arith)

pub overflow_add-ready : goal.overflow_add-ready
overflow_add-ready c = omega (arith, c.from-ready.ensures, bit_most c.is_ready.result)

pub loop-id-preserved : goal.loop-id-preserved
loop-id-preserved c = let a = c.loop-id in
    let ids = c.args.ids.now in (
      omega arith,
      omega (arith, c.from-ready.ensures, bit_most c.is_ready.result),
      λ b h ok.
          let e : c.from-ready.result ≡ bit_of (says is_ready b (get_or ids a.id-index 0)) = c.from-ready.ensures ∙ ap bit_of (c.is_ready.ensures ∙ c.place_of-p.ensures b h ok is_ready refl) in
          omega (arith, a.invariant.2 b h ok, e, count_next (says is_ready b) ids a.id-index 0 c.loop-id-test.true),
    )

pub returns : goal.returns
returns c = let a = c.loop-id in
    let ids = c.args.ids.now in (
      omega arith,
      λ b h ok. omega (arith, a.invariant.2 b h ok, count_none (says is_ready b) ids a.id-index c.loop-id-test.false),
    )
