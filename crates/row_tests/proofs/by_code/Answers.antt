use native.Mathlib.Omega.{arith}
use Rattle.row_tests.proofs.by_code.Goals as goal

pub returns-in_default : goal.returns-in_default
returns-in_default c = absurd (omega arith)
