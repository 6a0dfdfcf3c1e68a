-- A row that is reached by its number.
use Prim.Native.Nat.{ℕ, ◌≤◌, ◌<◌}
use mathlib.Core.Path.{◌≡◌, ap, ◌∙◌}
use native.Mathlib.Omega.{arith}

-- n rows in room for `most`: a number below `most` is kept, so what is known of row j is known of row i
pub at_row : (f : ℕ → ℕ) {r : ℕ} (n most i j : ℕ) → n ≤ most → (i < most → j ≡ i) → (j < n → r ≡ f j) → i < n → r ≡ f i
at_row f n most i j m e g l = let z = e (omega arith) in g (omega arith) ∙ ap f z
