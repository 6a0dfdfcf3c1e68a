use native.Mathlib.Omega.{arith}
use Rattle.applying.proofs.Asks.{call_none}
use Rattle.applying.proofs.call_of.Goals as goal

pub returns-in_default : goal.returns-in_default
returns-in_default c = call_none _ _ (λ p q. omega arith)
