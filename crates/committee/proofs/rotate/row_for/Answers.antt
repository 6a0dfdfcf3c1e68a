use native.Mathlib.Omega.{arith}
use Rattle.committee.proofs.Rotates.{no_row}
use Rattle.committee.proofs.rotate.row_for.Goals as goal

pub returns-then-k-ge-MOST_ROTATIONS-clause-goes : goal.returns-then-k-ge-MOST_ROTATIONS-clause-goes
returns-then-k-ge-MOST_ROTATIONS-clause-goes c = λ b h. no_row _ _ b _ (λ p s v. c.place_for-k.ensures.1 b p h s v) c.if-k-ge-MOST_ROTATIONS.true

pub returns-clause-goes : goal.returns-clause-goes
returns-clause-goes c = λ b h. record { free = omega (arith, c.count.ensures b h); place = λ p s v. c.place_for-k.ensures.1 b p h s v }
