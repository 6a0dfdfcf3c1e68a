use Prim.Native.Nat.{◌≤◌, ◌<◌}
use mathlib.Core.Path.{◌≡◌, ap, ◌∙◌}
use mathlib.Core.Bool.{◌&&◌}
use native.Mathlib.Omega.{arith}
use lib.ListN.{length, get_or}
use Rattle.types.specs.Places.{is_seated_on}
use Rattle.rules.specs.Lists.{bit_of}
use Rattle.rules.specs.Moves.{says}
use Rattle.board.specs.Held.{no_committee}
use Rattle.board.proofs.OfCommittees.{members_room}
use Rattle.pool.proofs.Pools.{bit_most}
use Rattle.committee.proofs.Asked.{count_next, count_none}
use Rattle.waits.specs.Counts.{is_ready_on}
use Rattle.waits.proofs.Counted.{seated_told, ready_told}
use Rattle.waits.proofs.members_at.Goals as goal

pub loop-k-init : goal.loop-k-init
loop-k-init c = (
  omega arith,
  c.rows_within-n.ensures.0,
  omega arith,
  omega arith,
  λ b h ok l.
      let n = c.member_count.ensures b h l in
      (c.rows_within-n.ensures.1 (rw n (members_room _ b h _ l)) ∙ n, omega arith, omega arith),
)

pub overflow_add-seated : goal.overflow_add-seated
overflow_add-seated c = omega (arith, c.from-seated.ensures, bit_most c.is_seated_on-here.result)

pub overflow_add-ready : goal.overflow_add-ready
overflow_add-ready c = omega (arith, c.from-ready.ensures, bit_most (c.is_seated_on-here.result && c.is_ready.result))

pub loop-k-preserved : goal.loop-k-preserved
loop-k-preserved c =
    let a = c.loop-k in
    let p = c.args in (
      omega arith,
      a.invariant.1,
      omega (arith, c.from-seated.ensures, bit_most c.is_seated_on-here.result),
      omega (arith, c.from-ready.ensures, bit_most (c.is_seated_on-here.result && c.is_ready.result)),
      λ b h ok l.
          let t = a.invariant.4 b h ok l in
          let s = p.shard.0 in
          let ids = (get_or b.committees p.j no_committee).val in
          let m : a.k < length ids = omega (arith, t.0, c.loop-k-test.true) in
          let place = c.place_of-p.ensures b h ok in
          let named = c.member_at.ensures b h l m in
          let e : c.from-seated.result ≡ bit_of (says (is_seated_on s) b (get_or ids a.k 0)) = c.from-seated.ensures ∙ ap bit_of (seated_told b s _ _ _ place named _ c.is_seated_on-here.ensures) in
          let f : c.from-ready.result ≡ bit_of (says (is_ready_on s) b (get_or ids a.k 0)) = c.from-ready.ensures ∙ ap bit_of (ready_told b s _ _ _ place named _ _ c.is_seated_on-here.ensures c.is_ready.ensures) in (
            t.0,
            omega (arith, t.1, e, count_next (says (is_seated_on s) b) ids a.k 0 m),
            omega (arith, t.2, f, count_next (says (is_ready_on s) b) ids a.k 0 m),
          ),
    )

pub returns : goal.returns
returns c =
    let a = c.loop-k in
    let p = c.args in (
      omega arith,
      omega arith,
      λ b h ok l.
          let t = a.invariant.4 b h ok l in
          let ids = (get_or b.committees p.j no_committee).val in
          let past : length ids ≤ a.k = omega (arith, t.0, c.loop-k-test.false) in
          (omega (arith, t.1, count_none (says (is_seated_on p.shard.0) b) ids a.k past), omega (arith, t.2, count_none (says (is_ready_on p.shard.0) b) ids a.k past)),
    )
