use mathlib.Core.Path.{refl, ap, ◌∙◌}
use mathlib.Core.Bool.{Bool, not}
use native.Mathlib.Omega.{arith}
use lib.ListN.{get_or}
use Rattle.rules.specs.Lists.{bit_of}
use Rattle.rules.specs.Table.{Table, stands}
use Rattle.rules.specs.Board.{Reshape}
use Rattle.board.specs.Held.{no_reshape}
use Rattle.board.proofs.OfCommittees.{members_room}
use Rattle.pool.proofs.Pools.{bit_most}
use Rattle.striking.proofs.Sifting.{none_tried, one_tried, all_tried}
use Rattle.striking.proofs.keep_unseated.Invariants.{unseated}
use Rattle.striking.proofs.keep_unseated.Goals as goal

pub loop-m-init : goal.loop-m-init
loop-m-init c = (
  omega arith,
  omega arith,
  c.rows_within-n.ensures.0,
  refl,
  λ b h l. (
    c.rows_within-n.ensures.1 (rw (c.member_count.ensures b h l) (members_room _ b h _ l)) ∙ c.member_count.ensures b h l,
    λ r rise. none_tried _ b _ l _ h,
  ),
)

pub overflow_add-k : goal.overflow_add-k
overflow_add-k c = omega (arith, c.from-k.ensures, bit_most (not c.has_seat.result))

pub loop-m-preserved : goal.loop-m-preserved
loop-m-preserved c =
    let a = c.loop-m in
    let p = c.args in (
      omega (arith, c.from-k.ensures, bit_most (not c.has_seat.result)),
      omega arith,
      a.invariant.2,
      c.put_member.auto.board ∙ a.invariant.3,
      λ b h l.
          let t = a.invariant.4 b h l in (
            t.0,
            λ r rise.
                one_tried (unseated p.i b) b _ l _ _ _ (t.1 r rise) _ (omega (arith, t.0, c.loop-m-test.true)) (omega arith) c.member_at-id.result.0
                c.member_at-id.ensures c.put_member.ensures c.from-k.result
                (λ d g same. c.from-k.ensures ∙ ap (λ (y : Bool). bit_of (not y)) (c.has_seat.ensures d g (rw same r) (rw same rise)
                ∙ ap (λ (u : Table Reshape). stands c.member_at-id.result.0 (get_or u p.i no_reshape).val.seats) same)),
          ),
    )

pub returns : goal.returns
returns c = λ b h l r rise.
    let a = c.loop-m in
    let t = a.invariant.4 b h l in
    all_tried _ b _ l _ _ _ (t.1 r rise) _ (omega (arith, t.0, c.loop-m-test.false)) c.cut_members.ensures
