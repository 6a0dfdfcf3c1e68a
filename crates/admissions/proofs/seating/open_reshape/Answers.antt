use native.Mathlib.Omega.{arith}
use Rattle.board.proofs.Keyed.{reshapes_rise}
use Rattle.admissions.proofs.Opening.{row_within, opened_held}
use Rattle.admissions.proofs.seating.open_reshape.Goals as goal

pub returns-then-i-ge-MOST_RESHAPES : goal.returns-then-i-ge-MOST_RESHAPES
returns-then-i-ge-MOST_RESHAPES c = (omega arith, λ b h ok l n. absurd (omega (arith, c.place_of-i.ensures.1 b h (reshapes_rise b ok), row_within c.args.target.0 b, c.if-i-ge-MOST_RESHAPES.true)))

pub returns : goal.returns
returns c = (
  c.if-i-ge-MOST_RESHAPES.false,
  λ b h ok l n.
      let p = c.place_of-i.ensures.1 b h (reshapes_rise b ok) in
      (opened_held _ _ b _ _ _ p (c.epoch-epoch.ensures b h) (c.open.ensures b h l (rw p (row_within _ b))), p),
)
