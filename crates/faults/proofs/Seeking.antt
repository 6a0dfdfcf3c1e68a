-- A finder's loop: what holds at each turn.
use Prim.Native.Nat.{ℕ, ◌+◌, ◌≤◌, ◌<◌}
use mathlib.Core.Path.{◌≡◌}
use mathlib.Core.List.{List}
use mathlib.Core.Bool.{Bool, true, false, not}
use native.Mathlib.Omega.{arith}
use lib.ListN.{length, get_or, drop}
use Rattle.tables.specs.Rows.{first_where}
use Rattle.tables.proofs.Keys.{search_found, search_passed, search_ended}
use Rattle.faults.specs.Firsts.{fails_from}

-- there are n rows, and from row i on the first that fails is what the finder answers
pub record Seeks {A : Type 0} (f : A → Bool) (l : List A) (start n i : ℕ) : Type 0 where
  pub rows : n ≡ length l
  pub left : i + first_where (λ x. not (f x)) (drop i l) ≡ fails_from f l start

module _ {A : Type 0} {f : A → Bool} {l : List A} {start n i : ℕ} (s : Seeks f l start n i) where
  pub inside : i < n → i < length l
  inside h = omega (arith, s.rows)

  pub found : (d : A) → i < length l → not (f (get_or l i d)) ≡ true → i ≡ fails_from f l start
  found = search_found (λ x. not (f x)) l i _ s.left

  pub passed : (d : A) → i < length l → not (f (get_or l i d)) ≡ false → Seeks f l start n (i + 1)
  passed d h e = record { rows = s.rows; left = search_passed (λ x. not (f x)) l i _ s.left d h e }

  pub ended : n ≤ i → i ≡ fails_from f l start
  ended h = search_ended (λ x. not (f x)) l i _ s.left (omega (arith, s.rows))
