use mathlib.Core.Path.{◌≡◌, refl, ap, sym, ◌∙◌}
use mathlib.Core.Bool.{true, not}
use native.Mathlib.Omega.{arith}
use Rattle.rules.specs.Table.{Entry}
use Rattle.rules.specs.Board.{Seat}
use Rattle.board.specs.Held.{no_seat}
use Rattle.reshapes.proofs.OfReshapes.{seats_room}
use Rattle.occupancy.proofs.Occupied.{says_watches}
use Rattle.faults.proofs.Seeking.{inside, found, passed, ended}
use Rattle.faults.proofs.Asked.{seat_asked}
use Rattle.faults.proofs.next_absent_seat.Goals as goal

pub loop-k-init : goal.loop-k-init
loop-k-init c = (omega arith, c.rows_within-n.ensures.0, λ b h ok l. record { rows = c.rows_within-n.ensures.1 (rw (c.count.ensures b h l) (seats_room _ b h _ l)) ∙ c.count.ensures b h l; left = refl })

pub returns-then-not-merging-observes_shard : goal.returns-then-not-merging-observes_shard
returns-then-not-merging-observes_shard c =
    let a = c.loop-k in (
      a.auto.k,
      λ b h ok l.
          let s = a.invariant.2 b h ok l in
          let m = inside s c.loop-k-test.true in
          found s no_seat m (sym (ap not (seat_asked b _ _ _ _ (c.is_merge-merging.ensures b h l) (says_watches b _ _ _ (c.place_of-p.ensures b h ok) _ _ (ap (λ (q : Entry Seat). q.key) (c.at-seat.ensures b h l m)) (c.target_at-target.ensures b h l) _ c.observes_shard.ensures))) ∙ c.if-not-merging-observes_shard.true-raw),
    )

pub loop-k-preserved : goal.loop-k-preserved
loop-k-preserved c =
    let a = c.loop-k in (
      omega arith,
      a.invariant.1,
      λ b h ok l.
          let s = a.invariant.2 b h ok l in
          let m = inside s c.loop-k-test.true in
          passed s no_seat m (sym (ap not (seat_asked b _ _ _ _ (c.is_merge-merging.ensures b h l) (says_watches b _ _ _ (c.place_of-p.ensures b h ok) _ _ (ap (λ (q : Entry Seat). q.key) (c.at-seat.ensures b h l m)) (c.target_at-target.ensures b h l) _ c.observes_shard.ensures))) ∙ c.if-not-merging-observes_shard.false-raw),
    )

pub returns : goal.returns
returns c =
    let a = c.loop-k in
    let last : c.max.result ≡ a.k = omega (arith, c.max.ensures, a.invariant.0, c.loop-k-test.false) in
    (omega (arith, c.max.ensures), λ b h ok l. last ∙ ended (a.invariant.2 b h ok l) (omega (arith, c.loop-k-test.false)))
