use mathlib.Core.Path.{◌≡◌, refl, ap, sym, ◌∙◌}
use mathlib.Core.Bool.{true, not}
use native.Mathlib.Omega.{arith}
use Rattle.board.proofs.OfCommittees.{members_room}
use Rattle.occupancy.proofs.Occupied.{says_here}
use Rattle.faults.proofs.Seeking.{inside, found, passed, ended}
use Rattle.faults.proofs.next_stray_member.Goals as goal

pub loop-k-init : goal.loop-k-init
loop-k-init c = (omega arith, c.rows_within-n.ensures.0, λ b h ok l. record { rows = c.rows_within-n.ensures.1 (rw (c.member_count.ensures b h l) (members_room _ b h _ l)) ∙ c.member_count.ensures b h l; left = refl })

pub returns-then-not-is_seated_on-observes_shard : goal.returns-then-not-is_seated_on-observes_shard
returns-then-not-is_seated_on-observes_shard c =
    let a = c.loop-k in (
      a.auto.k,
      λ b h ok l.
          let s = a.invariant.2 b h ok l in
          let m = inside s c.loop-k-test.true in
          found s 0 m (sym (ap not (says_here b _ _ _ (c.place_of-p.ensures b h ok) _ _ (c.member_at.ensures b h l m) (c.shard_at-shard.ensures b h l) _ _ c.is_seated_on.ensures c.observes_shard.ensures)) ∙ c.if-not-is_seated_on-observes_shard.true-raw),
    )

pub loop-k-preserved : goal.loop-k-preserved
loop-k-preserved c =
    let a = c.loop-k in (
      omega arith,
      a.invariant.1,
      λ b h ok l.
          let s = a.invariant.2 b h ok l in
          let m = inside s c.loop-k-test.true in
          passed s 0 m (sym (ap not (says_here b _ _ _ (c.place_of-p.ensures b h ok) _ _ (c.member_at.ensures b h l m) (c.shard_at-shard.ensures b h l) _ _ c.is_seated_on.ensures c.observes_shard.ensures)) ∙ c.if-not-is_seated_on-observes_shard.false-raw),
    )

pub returns : goal.returns
returns c =
    let a = c.loop-k in
    let last : c.max.result ≡ a.k = omega (arith, c.max.ensures, a.invariant.0, c.loop-k-test.false) in
    (omega (arith, c.max.ensures), λ b h ok l. last ∙ ended (a.invariant.2 b h ok l) (omega (arith, c.loop-k-test.false)))
