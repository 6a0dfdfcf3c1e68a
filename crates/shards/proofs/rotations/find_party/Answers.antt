use Prim.Native.Nat.{◌<◌}
use mathlib.Core.Path.{sym, ◌∙◌}
use native.Mathlib.Omega.{arith}
use lib.ListN.{length}
use Rattle.rules.specs.Moves.{has_party}
use Rattle.board.specs.Held.{no_rotation}
use Rattle.tables.proofs.Keys.{search_found, search_passed, search_ended}
use Rattle.shards.proofs.OfRotations.{one_found, none_found}
use Rattle.shards.proofs.rotations.find_party.Goals as goal

pub loop-i-init : goal.loop-i-init
loop-i-init c = (omega arith, c.rows-n.ensures.0, λ b h. (c.rows-n.ensures.1 b h, omega arith))

pub returns-then-has_party-clause-found : goal.returns-then-has_party-clause-found
returns-then-has_party-clause-found c = λ b h.
    let a = c.loop-i in
    let t = a.invariant.2 b h in
    let l : a.i < length b.rotations = omega (arith, t.0, c.loop-i-test.true) in
    one_found _ b.rotations a.i l
    (search_found (has_party c.args.shard.0 c.args.id.0) b.rotations a.i _ t.1 no_rotation l (rw (← c.at.ensures b h l) (sym c.has_party.ensures ∙ c.if-has_party.true)))

pub loop-i-preserved : goal.loop-i-preserved
loop-i-preserved c =
    let a = c.loop-i in (
      omega arith,
      a.invariant.1,
      λ b h.
          let t = a.invariant.2 b h in
          let l : a.i < length b.rotations = omega (arith, t.0, c.loop-i-test.true) in (
            t.0,
            search_passed (has_party c.args.shard.0 c.args.id.0) b.rotations a.i _ t.1 no_rotation l
                (rw (← c.at.ensures b h l) (sym c.has_party.ensures ∙ c.if-has_party.false)),
          ),
    )

pub returns-clause-found : goal.returns-clause-found
returns-clause-found c = λ b h.
    let a = c.loop-i in
    let t = a.invariant.2 b h in
    none_found _ b.rotations a.i (omega (arith, t.0, c.loop-i-test.false)) (search_ended (has_party c.args.shard.0 c.args.id.0) b.rotations a.i _ t.1 (omega (arith, t.0, c.loop-i-test.false)))
