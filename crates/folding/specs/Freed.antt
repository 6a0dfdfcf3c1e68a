-- A table while its rows move: row j is free, and row k is to be.
use Rattle.std.specs.Prelude.{ℕ, List, get_or}
use Rattle.types.specs.Numbers.{Id}
use Rattle.rules.specs.Table.{Table}
use Rattle.tables.specs.Rows.{insert_at, remove_at}
use Rattle.board.specs.Held.{no_committee}

-- the row at j taken out, and the one at k twice: one of the two is free
abbrev pub freed : ℕ → ℕ → Table (List Id) → Table (List Id)
freed j k t = insert_at (remove_at t j) k (get_or t k no_committee)
