use Prim.Native.Nat.{◌+◌, ◌-◌}
use mathlib.Core.Path.{◌≡◌, refl}
use native.Mathlib.Omega.{arith}
use borrow.Author.Tests.{not-true, not-false}
use Rattle.reading.proofs.Seats.{seats_start, seats_over, seats_fail, seats_more}
use Rattle.reading.proofs.reshape_rows.seats_ok.Goals as goal

pub loop-after-init : goal.loop-after-init
loop-after-init c = record { place = refl; rest = λ ws h q. seats_start h c.args.target _ c.args.at c.requires q }

pub returns-then-not-first_seat_ok : goal.returns-then-not-first_seat_ok
returns-then-not-first_seat_ok c = λ ws h q.
    let i = c.loop-after.invariant in
    let e : c.loop-after.after - 1 + 1 ≡ c.loop-after.after = omega arith in
    seats_fail h _ _ _ c.requires _ _ i.place (i.rest ws h q) _ (omega arith) (rw e at c.first_seat_ok.ensures ws h) (not-true _ c.if-not-first_seat_ok.true-raw)

pub loop-after-preserved : goal.loop-after-preserved
loop-after-preserved c =
    let i = c.loop-after.invariant in
    let e : c.loop-after.after - 1 + 1 ≡ c.loop-after.after = omega arith in
    record {
      place = omega (arith, i.place);
      rest = λ ws h q. seats_more h _ _ _ c.requires _ _ i.place (i.rest ws h q) _ (omega arith) (rw e at c.first_seat_ok.ensures ws h) (not-false _ c.if-not-first_seat_ok.false-raw);
    }

pub returns : goal.returns
returns c = λ ws h q. let i = c.loop-after.invariant in seats_over h _ _ _ c.requires _ _ i.place (i.rest ws h q) (omega arith)
