use native.Mathlib.Omega.{arith}
use Rattle.board.specs.Held.{no_boundary}
use Rattle.board.proofs.Keyed.{bounds_rise}
use Rattle.tables.proofs.Keys.{next_is_none}
use Rattle.rows.proofs.find_bound_after.Goals as goal

pub returns-then-count-j-clause-found : goal.returns-then-count-j-clause-found
returns-then-count-j-clause-found c = λ b h ok l e. next_is_none b.bounds (bounds_rise b ok) _ _ no_boundary l e (λ m q. omega (arith, c.if-count-j.true, c.count.ensures b h))

pub returns-clause-found : goal.returns-clause-found
returns-clause-found c = λ b h ok l e. next_is_none b.bounds (bounds_rise b ok) _ _ no_boundary l e (λ m q. omega (arith, q, c.if-next-shard.false, c.shard_at-next.ensures b h m))
