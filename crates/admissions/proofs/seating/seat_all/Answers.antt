use mathlib.Core.Path.{sym, ◌∙◌}
use native.Mathlib.Omega.{arith}
use Rattle.admissions.proofs.Opening.{row_there, seating_begins, seating_goes_on, seating_ends}
use borrow.Author.Rules.{rules}
use Rattle.admissions.proofs.seating.seat_all.Goals as goal

pub loop-k-init : goal.loop-k-init
loop-k-init c = (omega arith, c.requires.0, λ b h l r m. seating_begins _ _ _ b _ h r m)

pub loop-k-preserved : goal.loop-k-preserved
loop-k-preserved c =
    let a = c.loop-k in (
      omega (arith, c.loop-k-test.true),
      search rules,
      λ b h l r m.
          let s = a.invariant.2 b h l r m in
          seating_goes_on _ _ _ b a.k _ _ l c.loop-k-test.true s (λ p q. c.put_seat.ensures _ s.holds (row_there b _ l s.seats) p q),
    )

pub shape_of-board : goal.shape_of-board
shape_of-board c = c.loop-k.invariant.1 ∙ sym c.requires.0

pub returns : goal.returns
returns c = λ b h l r m. seating_ends _ _ _ b c.loop-k.k _ c.loop-k-test.false (c.loop-k.invariant.2 b h l r m)
