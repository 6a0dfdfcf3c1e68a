-- The tables of a family at its cut: their rows counted, and what becomes of them while the reshape's own row still stands.
use Rattle.std.specs.Prelude.{ℕ, ◌+◌, not, length}
use Rattle.types.specs.Numbers.{Shard, Height}
use Rattle.types.specs.Shards.{left_of, right_of}
use Rattle.rules.specs.Lists.{bit_of}
use Rattle.rules.specs.Table.{Table, stands}
use Rattle.rules.specs.Board.{Kind, Board}
use Rattle.rules.specs.Moves.{for_all, old_shards, new_shards}
use Rattle.rules.specs.Cut.{end_shard, begin_shard}

-- 1 where nothing stands at a key
abbrev pub lack : {A : Type 0} → ℕ → Table A → ℕ
lack k t = bit_of (not (stands k t))

-- the committees, with one for each shard of the family that has none
abbrev pub family_count : Shard → Board → ℕ
family_count t b = length b.committees + lack t b.committees + lack (left_of t) b.committees + lack (right_of t) b.committees

-- the cut's board, but for the reshape's row
unfoldable pub recast_tables : Kind → Shard → Height → Board → Board
recast_tables k t height b = for_all (begin_shard height) (new_shards k t) (for_all end_shard (old_shards k t) b)
