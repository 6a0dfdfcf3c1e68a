-- The definitions answer every recorded call as the original Rust, or where it has none the plain reading of document 01, did.
use mathlib.Core.Path.{◌≡◌, refl}
use mathlib.Core.Bool.{true}
use Rattle.rules.specs.Lists.{every}
use Rattle.rules.proofs.Computes.{computes}
use Rattle.recorded.specs.Call.{steps, call_of, step_agrees, refusal_agrees, read_agrees, agrees}
use Rattle.recorded.proofs.Calls.{all}

pub all_agree : every (every agrees) all ≡ true
unfolding computes all steps call_of step_agrees refusal_agrees read_agrees agrees
all_agree = refl
