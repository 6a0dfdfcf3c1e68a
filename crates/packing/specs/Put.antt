-- What a function that lays words leaves.
use Rattle.std.specs.Prelude.{ℕ, ◌+◌, ◌*◌, ◌≡◌, List, length}
use Rattle.bytes_words.specs.Laid.{laid}

-- words laid at a place, and where the next byte goes
pub record Put (ws : List ℕ) (at : ℕ) (before after : List ℕ) (r : ℕ) : Type 0 where
  pub next : r ≡ at + length ws * 8
  pub bytes : after ≡ laid ws at before
