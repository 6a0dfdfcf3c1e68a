use Prim.Native.Nat.{◌<◌}
use mathlib.Core.Path.{refl, ap, sym, ◌∙◌}
use mathlib.Core.Bool.{true}
use native.Mathlib.Omega.{arith}
use lib.ListN.{length}
use Rattle.rules.specs.Table.{Entry, keys_of}
use Rattle.rules.specs.Board.{Seat}
use Rattle.board.specs.Held.{no_machine, no_seat}
use Rattle.board.proofs.Keyed.{machines_rise}
use Rattle.rows.proofs.Asked.{finds_stands}
use Rattle.pool.proofs.Pools.{keys_none, keys_here}
use Rattle.arriving.specs.Coming.{reshape_in}
use Rattle.arriving.proofs.Comes.{row_fit}
use Rattle.arriving.proofs.Lists.{known, every_ended, is_unknown, is_known}
use Rattle.arriving.proofs.seats_recorded.Goals as goal

pub loop-k-init : goal.loop-k-init
loop-k-init c = (
  omega arith,
  c.rows_within-n.ensures.0,
  λ b h ok l.
      let n = c.count.ensures b h l in
      (c.rows_within-n.ensures.1 (rw n (row_fit b ok _ l).seats.room) ∙ n, refl),
)

pub returns-then-is_none : goal.returns-then-is_none
unfolding keys_of
returns-then-is_none c = λ b h ok l.
    let a = c.loop-k in
    let t = a.invariant.2 b h ok l in
    let seats = (reshape_in c.args.i b).seats in
    let m : a.k < length seats = omega (arith, t.0, c.loop-k-test.true) in
    let i = ap (λ (e : Entry Seat). e.key) (c.at-seat.ensures b h l m) in
    let f = finds_stands _ no_machine _ _ (machines_rise b ok) (c.find_machine.ensures.found b h ok) in
    is_unknown b _ _ _ _ _ (keys_here (λ v. true) seats a.k no_seat m refl) i t.1 (sym f ∙ c.if-is_none.ensures)

pub loop-k-preserved : goal.loop-k-preserved
unfolding keys_of
loop-k-preserved c = let a = c.loop-k in (
  omega arith,
  a.invariant.1,
  λ b h ok l.
      let t = a.invariant.2 b h ok l in
      let seats = (reshape_in c.args.i b).seats in
      let m : a.k < length seats = omega (arith, t.0, c.loop-k-test.true) in
      let i = ap (λ (e : Entry Seat). e.key) (c.at-seat.ensures b h l m) in
      let f = finds_stands _ no_machine _ _ (machines_rise b ok) (c.find_machine.ensures.found b h ok) in
      (t.0, is_known b _ _ _ _ _ (keys_here (λ v. true) seats a.k no_seat m refl) i t.1 (sym f ∙ c.if-is_none.ensures)),
)

pub returns : goal.returns
unfolding keys_of
returns c = λ b h ok l.
    let a = c.loop-k in
    let t = a.invariant.2 b h ok l in
    let seats = (reshape_in c.args.i b).seats in
    sym (t.1 ∙ every_ended (known b) _ (keys_none (λ v. true) seats a.k (omega (arith, t.0, c.loop-k-test.false))))
