-- A walk over the rotations: which are marked, and what one turn leaves.
use Rattle.std.specs.Prelude.{ℕ, ◌+◌, ◌<◌, ◌≡◌, List, Bool, true, false, length, get_or}
use Rattle.rules.specs.Board.{Board}
use Rattle.rules.specs.Places.{is_resolved, close}
use Rattle.board.specs.Held.{Holds, no_rotation}

-- true at each row whose rotation is resolved, and false at the others
abbrev pub Marked : Board → List Bool → Type 0
Marked b marks = (i : ℕ) → i < length b.rotations → get_or marks i false ≡ is_resolved b (get_or b.rotations i no_rotation)

-- the turn of the rotation at row i, and the row of the next
pub record Turned (b : Board) (i : ℕ) (marked : Bool) (after : List ℕ) (next : ℕ) : Type 0 where
  pub closed : marked ≡ true → (next ≡ i) × Holds after (close (get_or b.rotations i no_rotation) b)
  pub passed : marked ≡ false → (next ≡ i + 1) × Holds after b
