use mathlib.Core.List.{[]}
use Prim.Native.Nat.{◌+◌, ◌-◌, ◌≤◌}
use mathlib.Core.Path.{refl, sym, ◌∙◌}
use Rattle.rules.proofs.Tests.{le_of, lt_of_no}
use native.Mathlib.Omega.{arith}
use lib.ListN.{length, take, drop, length-take}
use lib.Seq.{length-take-le}
use Rattle.rules.specs.Board.{most_seats}
use Rattle.rules.specs.Reshapes.{seat_all}
use Rattle.admissions.proofs.Opening.{no_seats_rise, seat_all_rises, seat_all_length}
use Rattle.admissions.proofs.Admitting.{child_seated, seats_counted, kept_full, kept_admitted}
use Rattle.admissions.proofs.admit_kept.Goals as goal

pub returns-then-is_full : goal.returns-then-is_full
returns-then-is_full c = λ b h ok free draws w.
    let a = c.args in
    kept_full a.target.0 a.ids.now a.kept.from_left a.kept.from_right a.kept.left.at draws b _ _ (le_of _ _ (sym (c.is_full.ensures b h) ∙ c.if-is_full.true)) h refl

pub slice_bounds-seat_all-end : goal.slice_bounds-seat_all-end
slice_bounds-seat_all-end c = sym (length-take-le _ _ (omega (arith, c.requires.2, c.requires.3)))

pub returns : goal.returns
returns c = λ b h ok free draws w.
    let a = c.args in
    let p = c.requires in
    let t = a.target.0 in
    let ids = a.ids.now in
    let n = a.kept.from_left in
    let m = a.kept.from_right in
    let l = lt_of_no _ _ (sym (c.is_full.ensures b h) ∙ c.if-is_full.false) in
    let o = c.open_reshape-i.ensures.1 b h ok l free in
    let lefts = seat_all c.left.result.0 (take n ids) [] in
    let rights = take (n + m - n) (drop n ids) in
    let ll : length (take n ids) ≤ n = rw length-take (omega arith) in
    let lr : length rights ≤ m = rw length-take (omega arith) in
    let room : length lefts + length rights ≤ most_seats = omega (arith, seat_all_length c.left.result.0 (take n ids) [], p.2) in
    let h1 = child_seated t b [] _ o.1 _ _ (take n ids) no_seats_rise (omega (arith, p.2)) (c.seat_all.ensures _ o.0) in
    let h2 = child_seated t b lefts _ o.1 _ _ rights (seat_all_rises _ _ [] no_seats_rise) room (c.seat_all-2.ensures _ h1) in
    kept_admitted t ids n m a.kept.left.at draws b _ _ _ _ c.left.ensures c.right.ensures (n + m - n) (omega arith) ok free l w h2 _ (seats_counted t b _ _ o.1 _ (c.count.ensures _ h2)) c.done.ensures
