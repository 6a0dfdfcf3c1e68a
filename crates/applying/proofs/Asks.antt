-- Which numbers ask for no call.
use Prim.Native.Nat.{ℕ, zero, suc, ◌≤◌}
use mathlib.Core.Path.{◌≡◌, refl}
use mathlib.Core.List.{List, [], ◌∷◌}
use mathlib.Core.Option.{none}
use native.Mathlib.Omega.{arith}
use lib.ListN.{length}
use Rattle.rules.specs.Calls.{Call}
use Rattle.applying.specs.Asked.{call_at}

pub call_none : (cs : List Call) (n : ℕ) → (1 ≤ n → n ≤ length cs → ⊥) → call_at cs n ≡ none
unfolding call_at
call_none cs zero p = refl
call_none [] (suc n) p = refl
call_none (c ∷ cs) (suc zero) p = absurd (p (omega arith) (omega arith))
call_none (c ∷ cs) (suc (suc n)) p = call_none cs (suc n) (λ q r. p (omega arith) (omega arith))
