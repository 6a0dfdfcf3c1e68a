-- Rows of one table are as wide as each other, and no wider than a line of 100: nothing of them is cut.
use Prim.Native.Nat.{ℕ, ◌^◌, ◌<◌}
use mathlib.Core.Path.{◌≡◌, refl}
use native.Mathlib.Omega.{arith}
use lib.ListN.{length, length-append}
use Rattle.lines.proofs.Widths.{column_wide}
use Rattle.std.specs.Prelude.{Option, Some, None}
use Rattle.types.specs.declared.Epoch.{Epoch}
use Rattle.phrases.specs.Texts.{bytes, epoch_or}
use Rattle.row_lines.specs.Rows.{rotation_text, boundary_text, ends_text}

pub rotation_wide : (s v e o : ℕ) → s < 10 ^ 5 → v < 10 ^ 20 → e < 10 ^ 20 → o < 10 ^ 10 → length (rotation_text s v e o) ≡ 91
unfolding rotation_text bytes
rotation_wide s v e o hs hv he ho =
    simp (length-append, column_wide 5 s (omega arith) hs, column_wide 20 v (omega arith) hv, column_wide 20 e (omega arith) he, column_wide 10 o (omega arith) ho)

pub boundary_wide : (s h f l : ℕ) → s < 10 ^ 5 → h < 10 ^ 20 → f < 10 ^ 10 → l < 10 ^ 10 → length (boundary_text s h f l) ≡ 75
unfolding boundary_text bytes
boundary_wide s h f l hs hh hf hl =
    simp (length-append, column_wide 5 s (omega arith) hs, column_wide 20 h (omega arith) hh, column_wide 10 f (omega arith) hf, column_wide 10 l (omega arith) hl)

-- an epoch, where there is one, that ten digits show
unfoldable pub IsShort : Option Epoch → Type 0
IsShort (Some e) = e.0 < 10 ^ 10
IsShort None = Unit

pub ends_wide : (t a : Option Epoch) → IsShort t → IsShort a → length (ends_text t a) ≡ 53
unfolding ends_text epoch_or bytes IsShort
ends_wide (Some t) (Some a) ht ha = simp (length-append, column_wide 10 t.0 (omega arith) ht, column_wide 10 a.0 (omega arith) ha)
ends_wide (Some t) None ht ha = simp (length-append, column_wide 10 t.0 (omega arith) ht)
ends_wide None (Some a) ht ha = simp (column_wide 10 a.0 (omega arith) ha)
ends_wide None None ht ha = refl
