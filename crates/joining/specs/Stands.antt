-- A committee at a row.
use Rattle.std.specs.Prelude.{ℕ, Bool, eqb, ltb, length, get_or}
use Rattle.rules.specs.Lists.{◌and◌}
use Rattle.rules.specs.Board.{Board}
use Rattle.board.specs.Held.{no_committee}

-- the committee of shard s is at row i
unfoldable pub stands_at : ℕ → ℕ → Board → Bool
stands_at i s b = ltb i (length b.committees) and eqb (get_or b.committees i no_committee).key s
