use Prim.Native.Nat.{◌<◌}
use mathlib.Core.Bool.{false≢true}
use native.Mathlib.Omega.{arith}
use borrow.Author.Tests.{lt-ltb}
use lib.ListN.{length}
use Rattle.rules.specs.Lists.{◌and◌}
use Rattle.joining.specs.Stands.{stands_at}
use Rattle.joining.proofs.Joins.{none_past}
use Rattle.joining.proofs.stands_at.Goals as goal

pub returns-then-row-ge-MOST_COMMITTEES : goal.returns-then-row-ge-MOST_COMMITTEES
returns-then-row-ge-MOST_COMMITTEES c = (λ e. absurd (false≢true e), λ b h. none_past b _ _ (omega (arith, h.fits.committees, c.if-row-ge-MOST_COMMITTEES.true)))

pub returns-then-count-row : goal.returns-then-count-row
returns-then-count-row c = (λ e. absurd (false≢true e), λ b h. none_past b _ _ (omega (arith, c.count.ensures b h, c.if-count-row.true)))

pub returns : goal.returns
unfolding stands_at ◌and◌
returns c = (
  λ e. omega arith,
  λ b h.
      let l : c.args.row < length b.committees = omega (arith, c.count.ensures b h, c.if-count-row.false) in
      rw (lt-ltb _ _ l, c.eq.ensures, c.shard_at.ensures b h l),
)
