-- A rank in the pool, as a row of the machines' table.
use Rattle.std.specs.Prelude.{ℕ, ◌<◌, ◌≡◌, true, length, get_or}
use Rattle.types.specs.Places.{is_pooled}
use Rattle.rules.specs.Board.{Board}
use Rattle.rules.specs.Moves.{pool_of}
use Rattle.board.specs.Held.{no_machine}

-- row i is that of the pool's machine k
pub record HasRank (k i : ℕ) (b : Board) : Type 0 where
  pub within : i < length b.machines
  pub pooled : is_pooled (get_or b.machines i no_machine).val ≡ true
  pub id : (get_or b.machines i no_machine).key ≡ get_or (pool_of b) k 0
